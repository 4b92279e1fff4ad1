-- Bits as digits of radix 2.
use Rattle.std.proofs.Common.{◌≡◌, ℕ, zero, suc, ◌-◌, ◌*◌, ◌<◌, Bool, true, false, eqb, List, [], ◌∷◌, ◌++◌, map, length, replicate, sym, refl, ap, ◌∙◌, mul_comm, arith, lit<}
use mir.Val.{bool_byte}
use Rattle.std.specs.List.{AllByRecursion}
use Rattle.std.proofs.lemmas.List.{length-map, append-nil}
use Rattle.digits.specs.Orders.{row_order}
use Rattle.digits.specs.Positional.{packed, unpacked, bits}
use Rattle.digits.proofs.Ordering.{unpacked_order}
use Rattle.digits.proofs.Packing.{filled_is, packed_unpacked, unpacked_packed, unpacked_lt}

pub bit_small : (bit : Bool) → bool_byte bit < 2
bit_small true = lit< tt
bit_small false = lit< tt

pub bits_small : (list : List Bool) → AllByRecursion (λ d. d < 2) (map bool_byte list)
bits_small [] = tt
bits_small (bit ∷ list) = (bit_small bit, bits_small list)

-- bits to digits and back
pub bits_of_digits : (list : List Bool) → map (λ d. eqb d 1) (map bool_byte list) ≡ list
bits_of_digits [] = refl
bits_of_digits (true ∷ list) = ap (λ bs. true ∷ bs) (bits_of_digits list)
bits_of_digits (false ∷ list) = ap (λ bs. false ∷ bs) (bits_of_digits list)

digits_of_small : (ds : List ℕ) → AllByRecursion (λ d. d < 2) ds → map bool_byte (map (λ d. eqb d 1) ds) ≡ ds
digits_of_small [] h = refl
digits_of_small (zero ∷ ds) h = ap (λ es. 0 ∷ es) (digits_of_small ds h.1)
digits_of_small (suc zero ∷ ds) h = ap (λ es. 1 ∷ es) (digits_of_small ds h.1)
digits_of_small (suc (suc d) ∷ ds) h = absurd (let small = h.0 in omega arith)

pub digits_of_bits : (bytes : List ℕ) → map bool_byte (bits bytes) ≡ unpacked 2 8 bytes
digits_of_bits bytes = digits_of_small (unpacked 2 8 bytes) (unpacked_lt 2 8 bytes (lit< tt))

-- the bits of bytes write them again
pub bytes_of_bits : (bytes : List ℕ) → AllByRecursion (λ b. b < 256) bytes → packed 2 8 (length bytes) (map bool_byte (bits bytes)) ≡ bytes
bytes_of_bits bytes h =
    ap (packed 2 8 (length bytes)) (digits_of_bits bytes ∙ sym (append-nil (unpacked 2 8 bytes))) ∙ packed_unpacked 2 8 bytes [] (lit< tt) h

-- bytes that bits write have those bits
pub bits_of_packed : (w : ℕ) (list : List Bool) → length list ≡ 8 * w → bits (packed 2 8 w (map bool_byte list)) ≡ list
bits_of_packed w list long =
    let size = length-map list bool_byte in
    let e = mul_comm w 8 in
    let none : w * 8 - length (map bool_byte list) ≡ 0 = omega arith in
    ap (map (λ d. eqb d 1))
    (unpacked_packed 2 8 w (map bool_byte list) (lit< tt) (bits_small list) ∙ filled_is (w * 8) (map bool_byte list) (omega arith)
    ∙ ap (λ n. map bool_byte list ++ replicate n 0) none ∙ append-nil (map bool_byte list))
    ∙ bits_of_digits list

-- bytes are ordered as their bits are
pub bits_order : (us vs : List ℕ) → length us ≡ length vs → AllByRecursion (λ b. b < 256) us → AllByRecursion (λ b. b < 256) vs
    → row_order (map bool_byte (bits us)) (map bool_byte (bits vs)) ≡ row_order us vs
bits_order us vs long hu hv = rw (digits_of_bits us, digits_of_bits vs) (unpacked_order 2 8 (lit< tt) us vs long hu hv)
