-- The kinds of numbers: counts, and levels, which are signed. Their keys are 4 bytes, the most significant first.
use Rattle.std.specs.Prelude.{ℕ, ◌^◌, cond, List, length, ℤ, pos, ◌+ℤ◌, ◌-ℤ◌, Some, None, Option, ◌==◌, unsigned_abs}
use Rattle.std.specs.Ordering.{int_cmp}
use Rattle.std.specs.declared.cmp.Ordering.{Ordering}
use Rattle.digits.specs.Positional.{digits, weighed}
use Rattle.keys.specs.declared.counts.Count.{Count}
use Rattle.keys.specs.declared.levels.Level.{Level}

abbrev pub number_key : ℕ → List ℕ
number_key n = digits 256 4 n

-- the value that is made of the number in exactly 4 bytes
abbrev pub number_read : {X : Type 0} → (ℕ → X) → List ℕ → Option X
number_read made bytes = cond (length bytes == 4) (Some (made (weighed 256 4 bytes))) None

abbrev pub count : ℕ → Count
count n = record { 0 = n }

abbrev pub integer_order : ℤ → ℤ → Ordering
integer_order = int_cmp

-- how far a level lies above the lowest one, which is at −2^31
abbrev pub raised : ℤ → ℕ
raised z = unsigned_abs (z +ℤ pos (2 ^ 31))

-- the level that lies so far above the lowest one
abbrev pub lowered : ℕ → ℤ
lowered n = pos n -ℤ pos (2 ^ 31)

abbrev pub level : ℤ → Level
level z = record { 0 = z }
