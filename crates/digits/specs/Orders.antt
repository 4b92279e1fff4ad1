-- The order of numbers and of rows of numbers.
use Rattle.std.specs.Prelude.{ℕ, List}
use Rattle.std.specs.declared.cmp.Ordering.{Ordering}
use Rattle.std.specs.Ordering.{nat_cmp}
use Rattle.std.specs.Cmp.Lexicographic.{slice_cmp}

abbrev pub number_order : ℕ → ℕ → Ordering
number_order = nat_cmp

-- the first different number decides; a row that ends first is less
abbrev pub row_order : List ℕ → List ℕ → Ordering
row_order = slice_cmp number_order
