-- What a way down answers, of any tree that stands there.
use Rattle.std.specs.Prelude.{◌≡◌, ℕ, Bool, false, List, Option}
use Rattle.std.specs.declared.cmp.Ordering.{Ordering}
use Rattle.avl.specs.Avl.{Avl, find, seek, path}
use Rattle.books.specs.declared.entries.Entry.{Entry}
use Rattle.tree.specs.declared.counted.Counted.{Counted}
use Rattle.tree.specs.Links.{Link}
use Rattle.tree.specs.declared.nodes.Node.{Node}
use Rattle.tree.specs.Standing.{Placed}

pub record FoundIn {K : Type 0} (order : K → K → Ordering) (t : Avl K) (s : K) (r : Counted (Option ℕ)) : Type 0 where
  pub answer : r.answer ≡ find order t s
  pub comparisons : r.comparisons ≡ path false order t s

pub record SoughtIn {K : Type 0} (after : Bool) (order : K → K → Ordering) (t : Avl K) (s : K) (r : Counted (Option (Entry K))) : Type 0 where
  pub answer : r.answer ≡ seek after order t s
  pub comparisons : r.comparisons ≡ path after order t s

abbrev pub FindsBelow : {K : Type 0} → (K → K → Ordering) → List (Node K) → Link → K → Counted (Option ℕ) → Type 0
FindsBelow {K} order nodes root s r = (t : Avl K) → Placed 250 nodes root t → FoundIn order t s r

abbrev pub SeeksBelow : {K : Type 0} → Bool → (K → K → Ordering) → List (Node K) → Link → K → Counted (Option (Entry K)) → Type 0
SeeksBelow {K} after order nodes root s r = (t : Avl K) → Placed 250 nodes root t → SoughtIn after order t s r
