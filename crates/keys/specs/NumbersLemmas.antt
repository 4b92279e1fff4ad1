-- The key bytes of numbers can be read again, and levels are ordered as the counts that they are written as.
use Rattle.std.specs.Prelude.{◌≡◌, ℕ, ◌-◌, ◌^◌, ◌<◌, List, length, ℤ, pos, negsuc, ◌+ℤ◌, Some, FitsSigned, unsigned_abs}
use Rattle.std.proofs.Common.{ap, ◌∙◌, subst, append-nil, arith}
use Rattle.std.specs.Int.{w32}
use Rattle.std.proofs.lemmas.Int.{ints}
use Rattle.std.proofs.lemmas.Bool.Decides.{nat_tests}
use Rattle.digits.specs.Orders.{number_order}
use Rattle.digits.specs.Positional.{weighed}
use Rattle.digits.proofs.Packing.{digits_weighed, weighed_lt, filled_is}
use Rattle.keys.specs.Kinds.{Bytes}
use Rattle.keys.specs.Numbers.{number_key, number_read, integer_order, raised, lowered}

read_four : {X : Type 0} (made : ℕ → X) (key : List ℕ) (v : X) → number_read made key ≡ Some v → (length key ≡ 4) × (made (weighed 256 4 key) ≡ v)
read_four made key v e = grind (arith, nat_tests)

-- a kind whose values stand for numbers of 32 bits, each by its number's bytes, reads only what it writes
pub number_writes : {X : Type 0} (made : ℕ → X) (lawful : X → Type 0) (encode : X → List ℕ) → ((n : ℕ) → n < 2 ^ 32 → lawful (made n) × (encode (made n) ≡ number_key n))
    → (key : List ℕ) (v : X) → Bytes key → number_read made key ≡ Some v → lawful v × (encode v ≡ key)
number_writes made lawful encode stands key v bytes e =
    let read = read_four made key v e in
    let full : 4 - length key ≡ 0 = omega arith in
    let n = weighed 256 4 key in
    let made_n = stands n (weighed_lt 256 4 key (omega arith) bytes) in
    let again : number_key n ≡ key = digits_weighed 256 4 key (omega arith) bytes ∙ filled_is 4 key (omega arith) ∙ rw full (append-nil key) in
    subst (λ x. lawful x × (encode x ≡ key)) read.1 (made_n.0, made_n.1 ∙ again)

pub raised_lt : (z : ℤ) → FitsSigned w32 z → raised z < 2 ^ 32
raised_lt (pos n) h = omega (arith, ints)
raised_lt (negsuc n) h = omega (arith, ints)

pub raised_lowered : (n : ℕ) → raised (lowered n) ≡ n
raised_lowered n = let back : lowered n +ℤ pos (2 ^ 31) ≡ pos n = grind (arith, ints) in ap unsigned_abs back

pub lowered_fits : (n : ℕ) → n < 2 ^ 32 → FitsSigned w32 (lowered n)
lowered_fits n h = omega (arith, ints)

-- levels are ordered as their distances from the lowest one
pub raised_order : (a b : ℤ) → FitsSigned w32 a → FitsSigned w32 b → integer_order a b ≡ number_order (raised a) (raised b)
raised_order (pos a) (pos b) f g = grind (arith, nat_tests)
raised_order (pos a) (negsuc b) f g = grind (arith, ints, nat_tests)
raised_order (negsuc a) (pos b) f g = grind (arith, ints, nat_tests)
raised_order (negsuc a) (negsuc b) f g = grind (arith, ints, nat_tests)
