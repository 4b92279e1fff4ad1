-- What the library reads of hex digits is what the definitions of specs/ say.
use Rattle.std.proofs.Common.{◌≡◌, ℕ, ◌+◌, ◌*◌, ◌%◌, ◌==◌, true, false, List, [], ◌∷◌, length, Option, Some, None, Result, Ok, Err, refl, sym, ◌∙◌, ap, arith, if◌then◌else◌}
use Rattle.std.proofs.lemmas.Bool.Decides.{nat_tests}
use Rattle.std.specs.Result.{result_ok}
use Rattle.hex.specs.declared.error.FromHexError.{FromHexError}
use Rattle.hex.specs.declared.error.FromHexError.TheVariants.{OddLength}
use Rattle.hex.specs.Hex.{◌>>=◌, decode_of, decode_pairs, digit_or_error, hex_digit_value, pair_value}
use Rattle.passages.specs.Numerals.{hex_digit_read, hex_byte_read, hex_more, hex_read}

digit_same : (c : ℕ) → hex_digit_value c ≡ hex_digit_read c
digit_same c = grind (arith, nat_tests)

byte_same : (a b : Option ℕ) (high low i : ℕ) → result_ok (digit_or_error high i a >>= (λ h. digit_or_error low (i + 1) b >>= (λ l. Ok (h * 16 + l)))) ≡ hex_byte_read a b
byte_same None b high low i = refl
byte_same (Some h) None high low i = refl
byte_same (Some h) (Some l) high low i = let same : h * 16 + l ≡ 16 * h + l = omega arith in ap (λ n. Some n) same

pair_same : (high low i : ℕ) → result_ok (pair_value high low i) ≡ hex_byte_read (hex_digit_read high) (hex_digit_read low)
pair_same high low i = byte_same (hex_digit_value high) (hex_digit_value low) high low i ∙ rw (digit_same high, digit_same low) refl

more_same : (r : Result ℕ FromHexError) (s : Result (List ℕ) FromHexError) → result_ok (r >>= (λ byte. s >>= (λ bytes. Ok (byte ∷ bytes)))) ≡ hex_more (result_ok r) (result_ok s)
more_same (Err e) s = refl
more_same (Ok b) (Err e) = refl
more_same (Ok b) (Ok bs) = refl

pairs_same : (i : ℕ) (text : List ℕ) → result_ok (decode_pairs i text) ≡ hex_read text
unfolding decode_pairs
pairs_same i [] = refl
pairs_same i (c ∷ []) = refl
pairs_same i (high ∷ low ∷ rest) = more_same (pair_value high low i) (decode_pairs (i + 2) rest) ∙ rw (pair_same high low i, pairs_same (i + 2) rest) refl

none_more : (b : Option ℕ) → hex_more b None ≡ None
none_more None = refl
none_more (Some b) = refl

odd_not_read : (text : List ℕ) → length text % 2 ≡ 1 → hex_read text ≡ None
odd_not_read [] odd = cc
odd_not_read (c ∷ []) odd = refl
odd_not_read (high ∷ low ∷ rest) odd = let before = odd_not_read rest (omega (arith, odd)) in rw before (none_more _)

pub decode_same : (text : List ℕ) → result_ok (decode_of text) ≡ hex_read text
decode_same text =
    elim (length text % 2 == 1) as (λ b. (length text % 2 == 1) ≡ b → result_ok (if b then Err OddLength else decode_pairs 0 text) ≡ hex_read text) [
      | true ↦ λ e. let odd : length text % 2 ≡ 1 = grind (arith, nat_tests) in sym (odd_not_read text odd)
      | false ↦ λ e. pairs_same 0 text
    ] refl
