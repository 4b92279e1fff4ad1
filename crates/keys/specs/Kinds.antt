-- What a key kind's calls answer and leave.
use Rattle.std.specs.Prelude.{ℕ, ◌<◌, ◌≤◌, Bool, cond, ◌&&◌, List, ◌++◌, length, take, drop, Some, None, Ok, Err, Option, Result, nat_le}
use Rattle.std.specs.List.{AllByRecursion}
use Rattle.keys.specs.Refusals.{asked}
use Rattle.keys.specs.declared.refusals.Refusal.{Refusal}
use Rattle.keys.specs.declared.refusals.Refusal.TheVariants.{KindWidth, ShortBuffer, NoValue}

-- numbers that are bytes
abbrev pub Bytes : List ℕ → Type 0
Bytes = AllByRecursion (λ b. b < 256)

-- the widths that a book or a cipher serves: 1 to 32 bytes
abbrev pub served : ℕ → Bool
served w = nat_le 1 w && nat_le w 32

-- the same as a fact
abbrev pub Served : ℕ → Type 0
Served w = (1 ≤ w) × (w ≤ 32)

-- is the kind 1 to 32 bytes wide? and are w bytes there?
abbrev pub width_asked : {X : Type 0} → ℕ → ℕ → Result X Refusal → Result X Refusal
width_asked w there next = asked (served w) KindWidth (asked (nat_le w there) ShortBuffer next)

-- what writing answers, into a buffer of so many bytes
abbrev pub write_answer : ℕ → ℕ → Result (Unit {0}) Refusal
write_answer w there = width_asked w there (Ok tt)

-- what a buffer holds after a write of these key bytes: they stand in front, and all else stays
abbrev pub written : ℕ → List ℕ → List ℕ → List ℕ
written w key before = cond (served w && nat_le w (length before)) (key ++ drop w before) before

-- do these bytes write a value?
abbrev pub value_asked : {X : Type 0} → Option X → Result X Refusal
value_asked None = Err NoValue
value_asked (Some v) = Ok v

-- what reading answers: the value that the first w bytes write
abbrev pub read_answer : {X : Type 0} → ℕ → (List ℕ → Option X) → List ℕ → Result X Refusal
read_answer w decode bytes = width_asked w (length bytes) (value_asked (decode (take w bytes)))
