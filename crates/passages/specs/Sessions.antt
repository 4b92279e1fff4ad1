-- How sessions come to an end.
use Rattle.std.specs.Prelude.{ℕ, ◌+◌, ◌-◌, ◌^◌, ◌≤◌, min, Option, Some, None, Result, IfOk}
use Rattle.std.specs.Io.Iter.{pieces_left_to_read}
use Rattle.std.specs.Iterator.Adapters.{zip_first, zip_second}
use Rattle.std.specs.declared.io.Split.{Split}
use Rattle.std.specs.declared.iter.Zip.{Zip}
use Rattle.std.specs.declared.ops.RangeFrom.{RangeFrom}

-- the most lines that are left, by the lines and by their numbers, which are below 2^64
abbrev pub lines_left : {B A : Type 0} → Zip (Split B A) (RangeFrom ℕ) → ℕ
lines_left lines = min (pieces_left_to_read (zip_first lines)) (2 ^ 64 - 1 - (zip_second lines).start)

-- what is still to be done: a book to open and the lines that are left, or nothing
abbrev pub work_left : {B A X : Type 0} → Option X → Zip (Split B A) (RangeFrom ℕ) → ℕ
work_left None lines = 0
work_left (Some book) lines = 1 + lines_left lines

-- a book that is to be opened next was asked for in a line of its own
abbrev pub TakesLine : {B A X E : Type 0} → Zip (Split B A) (RangeFrom ℕ) → Result (Option X) E → Zip (Split B A) (RangeFrom ℕ) → Type 0
TakesLine old r new = IfOk r (λ next. work_left next new ≤ lines_left old)
