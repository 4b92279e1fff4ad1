-- Zeros at the end of a row of digits add nothing to it, and parts of packed rows.
use Rattle.std.proofs.Common.{◌≡◌, ℕ, zero, suc, ◌+◌, ◌-◌, ◌*◌, ◌/◌, ◌%◌, ◌^◌, List, [], ◌∷◌, ◌++◌, length, take, drop, replicate, sym, refl, ap, ◌∙◌, suc-mul, add_comm, suc-add, zero-add, zero-mul, arith}
use native.Mathlib.Nat.{zero-div, zero-mod}
use Rattle.std.proofs.lemmas.List.{append_assoc, drop-replicate, drop-drop, replicate-append-replicate, take_all}
use Rattle.digits.specs.Positional.{digits, weighed, unpacked, packed}
use Rattle.digits.proofs.Packing.{length_digits}

pub unpacked_append : (radix k : ℕ) (ms ns : List ℕ) → unpacked radix k (ms ++ ns) ≡ unpacked radix k ms ++ unpacked radix k ns
unpacked_append radix k [] ns = refl
unpacked_append radix k (m ∷ ms) ns =
    ap (λ back. digits radix k m ++ back) (unpacked_append radix k ms ns) ∙ sym (append_assoc (digits radix k m) (unpacked radix k ms) (unpacked radix k ns))

digits_zero : (radix k : ℕ) → digits radix k 0 ≡ replicate k 0
digits_zero radix zero = refl
digits_zero radix (suc k) =
    let none : 0 / radix ^ k % radix ≡ 0 = ap (λ n. n % radix) (zero-div (radix ^ k)) ∙ zero-mod radix in
    ap (λ d. d ∷ digits radix k 0) none ∙ ap (λ ds. 0 ∷ ds) (digits_zero radix k)

pub unpacked_zeros : (radix k n : ℕ) → unpacked radix k (replicate n 0) ≡ replicate (n * k) 0
unpacked_zeros radix k zero = rw (zero-mul k) refl
unpacked_zeros radix k (suc n) =
    ap (λ front. front ++ unpacked radix k (replicate n 0)) (digits_zero radix k)
    ∙ ap (λ back. replicate k 0 ++ back) (unpacked_zeros radix k n)
    ∙ replicate-append-replicate k (n * k) 0 ∙ ap (λ m. replicate m 0) (add_comm k (n * k) ∙ sym (suc-mul n k))

weighed_only_zeros : (radix k n : ℕ) → weighed radix k (replicate n 0) ≡ 0
weighed_only_zeros radix zero n = refl
weighed_only_zeros radix (suc k) zero = refl
weighed_only_zeros radix (suc k) (suc n) = ap (λ m. m + weighed radix k (replicate n 0)) (zero-mul (radix ^ k)) ∙ omega (arith, weighed_only_zeros radix k n)

weighed_zeros : (radix k : ℕ) (ds : List ℕ) (n : ℕ) → weighed radix k (ds ++ replicate n 0) ≡ weighed radix k ds
weighed_zeros radix zero ds n = refl
weighed_zeros radix (suc k) [] n = weighed_only_zeros radix (suc k) n
weighed_zeros radix (suc k) (d ∷ ds) n = ap (λ m. d * radix ^ k + m) (weighed_zeros radix k ds n)

drop_zeros : (k : ℕ) (ds : List ℕ) (n : ℕ) → (m : ℕ) × (drop k (ds ++ replicate n 0) ≡ drop k ds ++ replicate m 0)
drop_zeros zero ds n = (n, refl)
drop_zeros (suc k) [] n = (n - suc k, drop-replicate (suc k) n 0)
drop_zeros (suc k) (d ∷ ds) n = drop_zeros k ds n

pub packed_zeros : (radix k count : ℕ) (ds : List ℕ) (n : ℕ) → packed radix k count (ds ++ replicate n 0) ≡ packed radix k count ds
packed_zeros radix k zero ds n = refl
packed_zeros radix k (suc count) ds n =
    let rest = drop_zeros k ds n in
    ap (λ m. m ∷ packed radix k count (drop k (ds ++ replicate n 0))) (weighed_zeros radix k ds n)
    ∙ ap (λ ms. weighed radix k ds ∷ ms) (ap (packed radix k count) rest.1 ∙ packed_zeros radix k count (drop k ds) rest.0)

pub unpacked_take : (radix k n : ℕ) (ns : List ℕ) → unpacked radix k (take n ns) ≡ take (n * k) (unpacked radix k ns)
unpacked_take radix k zero ns = rw (zero-mul k) refl
unpacked_take radix k (suc n) [] = sym (take_all (suc n * k) [] (omega arith))
unpacked_take radix k (suc n) (m ∷ ns) =
    let size : suc n * k ≡ length (digits radix k m) + n * k = suc-mul n k ∙ add_comm (n * k) k ∙ ap (λ l. l + n * k) (sym (length_digits radix k m)) in
    ap (λ back. digits radix k m ++ back) (unpacked_take radix k n ns) ∙ sym (ap (λ j. take j (digits radix k m ++ unpacked radix k ns)) size ∙ take_behind (digits radix k m) (unpacked radix k ns) (n * k))
  where
    take_behind : (xs ys : List ℕ) (j : ℕ) → take (length xs + j) (xs ++ ys) ≡ xs ++ take j ys
    take_behind [] ys j = ap (λ i. take i ys) (zero-add j)
    take_behind (x ∷ xs) ys j = rw (suc-add (length xs) j) (ap (λ zs. x ∷ zs) (take_behind xs ys j))

pub packed_drop : (radix k count q : ℕ) (ds : List ℕ) → drop q (packed radix k count ds) ≡ packed radix k (count - q) (drop (q * k) ds)
packed_drop radix k count zero ds =
    let all : count - 0 ≡ count = omega arith in
    rw (all, zero-mul k) refl
packed_drop radix k zero (suc q) ds = let none : 0 - suc q ≡ 0 = omega arith in rw none refl
packed_drop radix k (suc count) (suc q) ds =
    let one_less : suc count - suc q ≡ count - q = omega arith in
    rw one_less (packed_drop radix k count q (drop k ds) ∙ ap (packed radix k (count - q)) (drop-drop (q * k) k ds ∙ ap (λ n. drop n ds) (add_comm k (q * k) ∙ sym (suc-mul q k))))
