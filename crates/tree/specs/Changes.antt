-- What an insertion and a removal make of node memory.
use Rattle.std.specs.Prelude.{◌≡◌, ℕ, ◌<◌, false, List, ◌∷◌, ◌++◌, length, Some, None, Ok, Err, Option, Result}
use Rattle.std.specs.declared.cmp.Ordering.{Ordering}
use Rattle.avl.specs.Avl.{Avl, fork, Balanced, slots, insert, remove, find, freed, path, joined, spare, without_least, least_slot, least_key, least_ticket}
use Rattle.avl.specs.Model.{Apart}
use Rattle.books.specs.Plain.{entry}
use Rattle.books.specs.declared.entries.Entry.{Entry}
use Rattle.tree.specs.declared.changes.Cut.{Cut}
use Rattle.tree.specs.declared.counted.Counted.{Counted}
use Rattle.tree.specs.Links.{Link}
use Rattle.tree.specs.declared.nodes.Node.{Node}
use Rattle.tree.specs.Shaping.{Joining}
use Rattle.tree.specs.Standing.{Placed, Reshaped}
use Rattle.keys.specs.declared.refusals.Refusal.{Refusal}
use Rattle.keys.specs.declared.refusals.Refusal.TheVariants.{KeyHeld, BookFull}

-- a slot for a new node, if there is one: it is in the memory, and not in the tree
abbrev pub Spot : {K : Type 0} → List (Node K) → Link → Avl K → Type 0
Spot nodes None t = Unit {0}
Spot nodes (Some s) t = (s < length nodes) × Apart s (slots t)

-- a tree that can grow or shrink, by a slot or without one
pub record Changing {K : Type 0} (nodes : List (Node K)) (at slot : Link) (t : Avl K) : Type 0 where
  pub placed : Placed 100 nodes at t
  pub balanced : Balanced t
  pub spot : Spot nodes slot t

abbrev pub Changeable : {K : Type 0} → List (Node K) → Link → Link → Type 0
Changeable {K} nodes at slot = (t : Avl K) × Changing nodes at slot t

-- by the ticket found and the slot to use, what an insertion answers and leaves
abbrev pub GrownBy : {K : Type 0} → (K → K → Ordering) → Option ℕ → Link → List (Node K) → Avl K → K → ℕ → List (Node K) → Result Link Refusal → Type 0
GrownBy order (Some held) slot nodes t k v after top = (top ≡ Err KeyHeld) × (after ≡ nodes)
GrownBy order None None nodes t k v after top = (top ≡ Err BookFull) × (after ≡ nodes)
GrownBy order None (Some s) nodes t k v after top = (at : Link) × ((top ≡ Ok at) × Reshaped nodes after (s ∷ slots t) at (insert order t k v s))

pub record Inserted {K : Type 0} (order : K → K → Ordering) (nodes : List (Node K)) (slot : Link) (t : Avl K) (k : K) (v : ℕ) (after : List (Node K)) (r : Counted (Result Link Refusal)) : Type 0 where
  pub comparisons : r.comparisons ≡ path false order t k
  pub outcome : GrownBy order (find order t k) slot nodes t k v after r.answer

abbrev pub Inserts : {K : Type 0} → (K → K → Ordering) → List (Node K) → Link → Link → K → ℕ → List (Node K) → Counted (Result Link Refusal) → Type 0
Inserts {K} order nodes at slot k v after r = (t : Avl K) → Changing nodes at slot t → Inserted order nodes slot t k v after r

-- what taking the least pair out answers and leaves
pub record LeastGone {K : Type 0} (nodes : List (Node K)) (i : ℕ) (k : K) (v : ℕ) (a b : Avl K) (after : List (Node K)) (r : Cut (Entry K)) : Type 0 where
  pub out : r.out ≡ entry (least_key i k v a) (least_ticket i k v a)
  pub slot : r.slot ≡ least_slot i k v a
  pub left : Reshaped nodes after (slots (fork i k v a b)) r.top (without_least i k v a b)

abbrev pub TakesTheLeast : {K : Type 0} → List (Node K) → ℕ → List (Node K) → Cut (Entry K) → Type 0
TakesTheLeast {K} nodes i after r = (k : K) (v : ℕ) (a b : Avl K) → Changing nodes (Some i) None (fork i k v a b) → LeastGone nodes i k v a b after r

-- the two sides of a node, of which both can shrink
pub record Siding {K : Type 0} (nodes : List (Node K)) (i : ℕ) (left right : Link) (a b : Avl K) : Type 0 where
  pub joining : Joining 100 nodes i left right a b
  pub left_balanced : Balanced a
  pub right_balanced : Balanced b

abbrev pub Sided : {K : Type 0} → List (Node K) → ℕ → Node K → Type 0
Sided {K} nodes i n = (a : Avl K) × ((b : Avl K) × Siding nodes i n.left n.right a b)

-- what stands in place of a node whose pair goes with its ticket, and the slot that is free then
pub record JoinedUp {K : Type 0} (nodes : List (Node K)) (i v : ℕ) (a b : Avl K) (after : List (Node K)) (r : Cut ℕ) : Type 0 where
  pub out : r.out ≡ v
  pub slot : r.slot ≡ spare i a b
  pub left : Reshaped nodes after (slots a ++ (i ∷ slots b)) r.top (joined i a b)

abbrev pub JoinsUp : {K : Type 0} → List (Node K) → ℕ → Node K → List (Node K) → Cut ℕ → Type 0
JoinsUp {K} nodes i n after r = (a b : Avl K) → Siding nodes i n.left n.right a b → JoinedUp nodes i n.entry.ticket a b after r

-- by the ticket found, what a removal answers and leaves
abbrev pub ShrunkBy : {K : Type 0} → (K → K → Ordering) → Option ℕ → List (Node K) → Avl K → K → List (Node K) → Option (Cut ℕ) → Type 0
ShrunkBy order None nodes t s after gone = (gone ≡ None) × (after ≡ nodes)
ShrunkBy order (Some held) nodes t s after gone =
    (g : Cut ℕ) × ((gone ≡ Some g) × (g.out ≡ held) × (freed order t s ≡ Some g.slot) × Reshaped nodes after (slots t) g.top (remove order t s))

pub record Removed {K : Type 0} (order : K → K → Ordering) (nodes : List (Node K)) (t : Avl K) (s : K) (after : List (Node K)) (r : Counted (Option (Cut ℕ))) : Type 0 where
  pub comparisons : r.comparisons ≡ path false order t s
  pub outcome : ShrunkBy order (find order t s) nodes t s after r.answer

abbrev pub Removes : {K : Type 0} → (K → K → Ordering) → List (Node K) → Link → K → List (Node K) → Counted (Option (Cut ℕ)) → Type 0
Removes {K} order nodes at s after r = (t : Avl K) → Changing nodes at None t → Removed order nodes t s after r
