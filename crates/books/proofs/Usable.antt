-- The slots of lent memory that serve are among those lent, and few.
use Rattle.std.proofs.Common.{ℕ, ◌≤◌, leb, arith}
use Rattle.std.proofs.lemmas.Bool.{leb-true, cond_both}
use Rattle.books.specs.Meaning.{usable}

pub usable_within : (slots : ℕ) → usable slots ≤ slots
usable_within slots = cond_both (leb slots 65535) slots 0 (λ n. n ≤ slots) (λ _. omega arith) (λ _. omega arith)

pub usable_few : (slots : ℕ) → usable slots ≤ 65535
usable_few slots = cond_both (leb slots 65535) slots 0 (λ n. n ≤ 65535) (λ few. leb-true slots 65535 few) (λ _. omega arith)
