-- Numbers and bytes as words spell them.
use Rattle.std.specs.Prelude.{◌≡◌, ◌≢◌, ℕ, ◌+◌, ◌-◌, ◌*◌, ◌^◌, cond, ◌&&◌, List, [], ◌∷◌, ℤ, pos, neg_ℤ, Some, None, Option, Ok, Err, Result, ◌==◌, nat_le, nat_lt, slice_index}
use Rattle.std.specs.Char.{digit_value}
use Rattle.std.specs.Str.{all_ascii_digits, IsUtf8}
use Rattle.passages.specs.declared.troubles.Trouble.{Trouble}
use Rattle.passages.specs.declared.troubles.Trouble.TheVariants.{NotUnderstood}

-- the number that decimal digits write, after those of n
abbrev pub number_after : ℕ → List ℕ → ℕ
number_after n [] = n
number_after n (c ∷ cs) = number_after (10 * n + (c - 48)) cs

-- the same, of bytes that have to be digits and of a number that has to be below 2^32
abbrev pub decimal_after : ℕ → List ℕ → Option ℕ
decimal_after n cs = cond (all_ascii_digits cs && nat_lt (number_after n cs) (2 ^ 32)) (Some (number_after n cs)) None

-- the number that a word writes
abbrev pub decimal_read : List ℕ → Option ℕ
decimal_read [] = None
decimal_read (c ∷ cs) = decimal_after 0 (c ∷ cs)

-- a number that has to be below a limit
abbrev pub below : ℕ → Option ℕ → Option ℕ
below limit None = None
below limit (Some n) = cond (nat_lt n limit) (Some n) None

-- a number as it stands and with its sign turned, where it is one of 32 bits
abbrev pub risen : ℕ → Option ℤ
risen n = cond (nat_lt n (2 ^ 31)) (Some (pos n)) None

abbrev pub fallen : ℕ → Option ℤ
fallen n = cond (nat_le n (2 ^ 31)) (Some (neg_ℤ (pos n))) None

abbrev pub with_sign : (ℕ → Option ℤ) → Option ℕ → Option ℤ
with_sign sign None = None
with_sign sign (Some n) = sign n

-- the number that a word writes with a minus sign before its digits or not
abbrev pub signed_read : List ℕ → Option ℤ
signed_read [] = None
signed_read (c ∷ cs) = cond (c == 45) (with_sign fallen (decimal_read cs)) (with_sign risen (decimal_read (c ∷ cs)))

-- the number that a hex digit stands for, of either case
abbrev pub hex_digit_read : ℕ → Option ℕ
hex_digit_read c = cond (nat_lt (digit_value c) 16) (Some (digit_value c)) None

-- the byte that two hex digits write
abbrev pub hex_byte_read : Option ℕ → Option ℕ → Option ℕ
hex_byte_read None low = None
hex_byte_read (Some h) None = None
hex_byte_read (Some h) (Some l) = Some (16 * h + l)

-- a byte before others, where each is read
abbrev pub hex_more : Option ℕ → Option (List ℕ) → Option (List ℕ)
hex_more None bytes = None
hex_more (Some b) None = None
hex_more (Some b) (Some bs) = Some (b ∷ bs)

-- the bytes that a word writes, two hex digits each
abbrev pub hex_read : List ℕ → Option (List ℕ)
hex_read [] = Some []
hex_read (c ∷ []) = None
hex_read (high ∷ low ∷ cs) = hex_more (hex_byte_read (hex_digit_read high) (hex_digit_read low)) (hex_read cs)

-- what is read, or else that it is not understood
abbrev pub understood : {A : Type 0} → Option A → Result A Trouble
understood None = Err NotUnderstood
understood (Some a) = Ok a

-- a word is read as the library reads its text, but for a plus sign, which is not understood
abbrev pub ReadsUnlessPlus : {N E : Type 0} → (List ℕ → Result N E → Type 0) → List ℕ → Result N Trouble → Type 0
ReadsUnlessPlus reads word (Ok n) = (slice_index word 0 ≢ 43) × reads word (Ok n)
ReadsUnlessPlus {E} reads word (Err trouble) =
    (trouble ≡ NotUnderstood) × (IsUtf8 word → slice_index word 0 ≢ 43 → (e : E) × reads word (Err e))
