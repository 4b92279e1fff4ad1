-- What the library reads of a number is what the definitions of specs/ say.
use Rattle.std.proofs.Common.{◌≡◌, ◌≢◌, ℕ, ◌^◌, ◌<◌, ◌≤◌, Bool, true, false, cond, ◌&&◌, nat_lt, nat_le, ◌==◌, w32, List, [], ◌∷◌, length, get_or, Option, Some, None, Result, Ok, Err, ℤ, pos, neg_ℤ, refl, sym, ◌∙◌, ap, rules, arith, MatchResult}
use Rattle.std.specs.Result.{OkIff}
use Rattle.std.specs.declared.num.ParseIntError.{ParseIntError}
use Rattle.std.specs.Str.{all_ascii_digits, IsAscii, IsUtf8}
use Rattle.std.specs.Str.Parse.{ParsesUnsigned, ParsesSigned, ExplainsUnsignedError, HasUnsignedDigitsIfOk, ExplainsSignedError, HasSignedDigitsIfOk}
use Rattle.std.proofs.lemmas.Bool.Decides.{nat_tests}
use Rattle.std.proofs.lemmas.Fmt.{IsAscii-from_digits}
use Rattle.std.proofs.lemmas.Str.{IsUtf8-from_ascii}
use Rattle.std.proofs.lemmas.Str.Ascii.{IsAscii-cons}
use Rattle.std.proofs.lemmas.Str.Parse.{IsNumeralModel, numerals_by_fold, tells_all_ascii_digits, not_in_digits, parse_plain, parse_signed_plain, parse_signed_minus}
use Rattle.passages.specs.declared.troubles.Trouble.{Trouble}
use Rattle.passages.specs.declared.troubles.Trouble.TheVariants.{NotUnderstood}
use Rattle.passages.specs.Numerals.{number_after, decimal_read, below, risen, fallen, with_sign, signed_read, understood, ReadsUnlessPlus}

-- the library's digits and the number that they write are those of specs/
own : IsNumeralModel (λ ds. all_ascii_digits ds ≡ true) (number_after 0)
own = numerals_by_fold _ tells_all_ascii_digits number_after (search rules)

-- digits of a number that has P
abbrev pub IsNumeralWith : (ℕ → Type 0) → List ℕ → Type 0
IsNumeralWith P ds = (all_ascii_digits ds ≡ true) × (0 < length ds) × P (number_after 0 ds)

is_text : (ds : List ℕ) → all_ascii_digits ds ≡ true → IsAscii ds
is_text ds digits = IsAscii-from_digits ds (own.to ds digits)

no_plus : (ds : List ℕ) → all_ascii_digits ds ≡ true → 0 < length ds → get_or ds 0 0 ≢ 43
no_plus ds digits some = not_in_digits own ds 43 digits (λ r. omega (arith, r)) 0 some

-- a word is read exactly where the library reads it, if that is where P holds, which it does of no plus sign
read_where :
    {X E : Type 0} (reads : List ℕ → Result X E → Type 0) (word : List ℕ) (P : Type 0) (v : X) →
    (P → IsUtf8 word) → (P → get_or word 0 0 ≢ 43) → (get_or word 0 0 ≢ 43 → (x : Result X E) → reads word x → OkIff x P v) →
    (r : Result X Trouble) → ReadsUnlessPlus reads word r → MatchResult r (λ n. P × (n ≡ v)) (λ t. (t ≡ NotUnderstood) × (P → ⊥))
read_where reads word P v text plain is (Ok n) read = is read.0 (Ok n) read.1
read_where reads word P v text plain is (Err t) read =
    (read.0, λ p. let e = read.1 (text p) (plain p) in is (plain p) (Err e.0) e.1 p)

-- two tests that decide where
decided :
    {X : Type 0} (a b : Bool) (P : Type 0) → (P → (a ≡ true) × (b ≡ true)) → ((a ≡ true) → (b ≡ true) → P) → (v : X) (r : Result X Trouble) →
    MatchResult r (λ n. P × (n ≡ v)) (λ t. (t ≡ NotUnderstood) × (P → ⊥)) → r ≡ understood (cond (a && b) (Some v) None)
decided true true P to from v (Ok n) e = cc
decided true true P to from v (Err t) e = absurd (e.1 (from refl refl))
decided true false P to from v (Ok n) e = let tests = to e.0 in cc
decided true false P to from v (Err t) e = cc
decided false b P to from v (Ok n) e = let tests = to e.0 in cc
decided false b P to from v (Err t) e = cc

-- what digits give where their number passes a test
abbrev tested : {X : Type 0} → (ℕ → Bool) → (ℕ → X) → List ℕ → Option X
tested test value [] = None
tested test value (c ∷ cs) = cond (all_ascii_digits (c ∷ cs) && test (number_after 0 (c ∷ cs))) (Some (value (number_after 0 (c ∷ cs)))) None

by_test :
    {X : Type 0} (test : ℕ → Bool) (P : ℕ → Type 0) → ((n : ℕ) → P n → test n ≡ true) → ((n : ℕ) → test n ≡ true → P n) → (value : ℕ → X) (ds : List ℕ) (r : Result X Trouble) →
    MatchResult r (λ n. IsNumeralWith P ds × (n ≡ value (number_after 0 ds))) (λ t. (t ≡ NotUnderstood) × (IsNumeralWith P ds → ⊥)) → r ≡ understood (tested test value ds)
by_test test P passes back value [] (Ok n) e = let never : ⊥ = omega (arith, e.0.1) in absurd never
by_test test P passes back value [] (Err t) e = cc
by_test test P passes back value (c ∷ cs) r e =
    let v = number_after 0 (c ∷ cs) in
    decided (all_ascii_digits (c ∷ cs)) (test v) (IsNumeralWith P (c ∷ cs)) (λ p. (p.0, passes v p.2)) (λ digits small. (digits, omega arith, back v small)) (value v) r e

-- a number of fewer bits than 32, as it stands or with its sign turned
fewer : (k : ℕ) (a : Bool) (v : ℕ) → 2 ^ k ≤ 2 ^ 32 → cond (a && nat_lt v (2 ^ k)) (Some v) None ≡ below (2 ^ k) (cond (a && nat_lt v (2 ^ 32)) (Some v) None)
fewer k false v small = refl
fewer k true v small = grind (arith, nat_tests)

as_it_stands : (a : Bool) (v : ℕ) → cond (a && nat_lt v (2 ^ 31)) (Some (pos v)) None ≡ with_sign risen (cond (a && nat_lt v (2 ^ 32)) (Some v) None)
as_it_stands false v = refl
as_it_stands true v = grind (arith, nat_tests)

turned : (a : Bool) (v : ℕ) → cond (a && nat_le v (2 ^ 31)) (Some (neg_ℤ (pos v))) None ≡ with_sign fallen (cond (a && nat_lt v (2 ^ 32)) (Some v) None)
turned false v = refl
turned true v = grind (arith, nat_tests)

fewer_read : (k : ℕ) → 2 ^ k ≤ 2 ^ 32 → (ds : List ℕ) → tested (λ n. nat_lt n (2 ^ k)) (λ n. n) ds ≡ below (2 ^ k) (decimal_read ds)
fewer_read k small [] = refl
fewer_read k small (c ∷ cs) = fewer k (all_ascii_digits (c ∷ cs)) (number_after 0 (c ∷ cs)) small

as_it_stands_read : (ds : List ℕ) → tested (λ n. nat_lt n (2 ^ 31)) pos ds ≡ with_sign risen (decimal_read ds)
as_it_stands_read [] = refl
as_it_stands_read (c ∷ cs) = as_it_stands (all_ascii_digits (c ∷ cs)) (number_after 0 (c ∷ cs))

turned_read : (ds : List ℕ) → tested (λ n. nat_le n (2 ^ 31)) (λ n. neg_ℤ (pos n)) ds ≡ with_sign fallen (decimal_read ds)
turned_read [] = refl
turned_read (c ∷ cs) = turned (all_ascii_digits (c ∷ cs)) (number_after 0 (c ∷ cs))

-- what the library says of `parse` at an unsigned type of k bits, and at `i32`
abbrev ReadsUnsigned : ℕ → List ℕ → Result ℕ ParseIntError → Type 0
ReadsUnsigned k bs x = ParsesUnsigned k 10 bs x × ExplainsUnsignedError 10 bs x × HasUnsignedDigitsIfOk bs x

abbrev ReadsSigned : List ℕ → Result ℤ ParseIntError → Type 0
ReadsSigned bs x = ParsesSigned w32 10 bs x × ExplainsSignedError 10 bs x × HasSignedDigitsIfOk bs x

-- a number of k bits, of which there are up to 32
pub reads_unsigned : (k : ℕ) → 2 ^ k ≤ 2 ^ 32 → (word : List ℕ) (r : Result ℕ Trouble) → ReadsUnlessPlus (ReadsUnsigned k) word r → r ≡ understood (below (2 ^ k) (decimal_read word))
reads_unsigned k small word r read =
    let P = IsNumeralWith (λ n. n < 2 ^ k) word in
    by_test (λ n. nat_lt n (2 ^ k)) (λ n. n < 2 ^ k) (λ n h. grind (arith, nat_tests)) (λ n h. grind (arith, nat_tests)) (λ n. n) word r
    (read_where (ReadsUnsigned k) word P (number_after 0 word) (λ p. IsUtf8-from_ascii word (is_text word p.0)) (λ p. no_plus word p.0 p.1) (λ plain x h. parse_plain own k word x h.0 plain) r read)
    ∙ ap understood (fewer_read k small word)

-- of a number below 2 to the 32 that is read nothing is lost
pub none_lost : (word : List ℕ) → below (2 ^ 32) (decimal_read word) ≡ decimal_read word
none_lost [] = refl
none_lost (c ∷ cs) = sym (fewer 32 (all_ascii_digits (c ∷ cs)) (number_after 0 (c ∷ cs)) (omega arith))

-- a number with no minus sign, and behind one
reads_plain : (word : List ℕ) → get_or word 0 0 ≢ 45 → (r : Result ℤ Trouble) → ReadsUnlessPlus ReadsSigned word r → r ≡ understood (with_sign risen (decimal_read word))
reads_plain word no_minus r read =
    let P = IsNumeralWith (λ n. n < 2 ^ 31) word in
    by_test (λ n. nat_lt n (2 ^ 31)) (λ n. n < 2 ^ 31) (λ n h. grind (arith, nat_tests)) (λ n h. grind (arith, nat_tests)) pos word r
    (read_where ReadsSigned word P (pos (number_after 0 word)) (λ p. IsUtf8-from_ascii word (is_text word p.0)) (λ p. no_plus word p.0 p.1) (λ plain x h. parse_signed_plain own w32 word x h.0 plain no_minus) r read)
    ∙ ap understood (as_it_stands_read word)

reads_minus : (ds : List ℕ) (r : Result ℤ Trouble) → ReadsUnlessPlus ReadsSigned (45 ∷ ds) r → r ≡ understood (with_sign fallen (decimal_read ds))
reads_minus ds r read =
    let P = IsNumeralWith (λ n. n ≤ 2 ^ 31) ds in
    by_test (λ n. nat_le n (2 ^ 31)) (λ n. n ≤ 2 ^ 31) (λ n h. grind (arith, nat_tests)) (λ n h. grind (arith, nat_tests)) (λ n. neg_ℤ (pos n)) ds r
    (read_where ReadsSigned (45 ∷ ds) P (neg_ℤ (pos (number_after 0 ds))) (λ p. IsUtf8-from_ascii (45 ∷ ds) (IsAscii-cons 45 ds (omega arith) (is_text ds p.0))) (λ p e. omega (arith, e)) (λ plain x h. parse_signed_minus own w32 (45 ∷ ds) x h.0 refl) r read)
    ∙ ap understood (turned_read ds)

pub reads_signed : (word : List ℕ) (r : Result ℤ Trouble) → ReadsUnlessPlus ReadsSigned word r → r ≡ understood (signed_read word)
reads_signed [] r read = reads_plain [] (λ e. omega (arith, e)) r read
reads_signed (c ∷ cs) r read =
    elim (c == 45) as (λ b. (c == 45) ≡ b → r ≡ understood (cond b (with_sign fallen (decimal_read cs)) (with_sign risen (decimal_read (c ∷ cs))))) [
      | true ↦ λ e. let is : c ≡ 45 = grind (arith, nat_tests) in reads_minus cs r (rw is at read)
      | false ↦ λ e. reads_plain (c ∷ cs) (grind (arith, nat_tests)) r read
    ] refl
