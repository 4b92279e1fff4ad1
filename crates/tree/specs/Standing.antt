-- How a tree stands in node memory.
use Rattle.std.specs.Prelude.{◌≡◌, ℕ, suc, ◌<◌, ◌≤◌, max, List, length, Some, None, Option}
use Rattle.std.specs.List.{slice_get}
use Rattle.books.specs.Plain.{entry}
use Rattle.avl.specs.Avl.{Avl, tip, fork, height, slots}
use Rattle.avl.specs.Model.{Apart, Distinct}
use Rattle.tree.specs.Links.{Link}
use Rattle.tree.specs.declared.nodes.Node.{Node}

-- the link to a tree: its root's slot
abbrev pub link_of : {K : Type 0} → Avl K → Link
link_of tip = None
link_of (fork i k v a b) = Some i

-- the node over two sides
abbrev pub node_of : {K : Type 0} → K → ℕ → Avl K → Avl K → Node K
node_of k v a b = record { entry = entry k v; left = link_of a; right = link_of b; height = suc (max (height a) (height b)) }

-- each slot of the tree holds its node
abbrev pub Lies : {K : Type 0} → List (Node K) → Avl K → Type 0
Lies nodes tip = Unit {0}
Lies nodes (fork i k v a b) = (slice_get nodes i ≡ Some (node_of k v a b)) × Lies nodes a × Lies nodes b

-- the tree stands at a link
pub record Stands {K : Type 0} (nodes : List (Node K)) (at : Link) (t : Avl K) : Type 0 where
  pub lies : Lies nodes t
  pub linked : at ≡ link_of t

-- what a node tells of its height; of an absent one it is 0
abbrev pub told_height : {K : Type 0} → Option (Node K) → ℕ
told_height None = 0
told_height (Some n) = n.height

abbrev pub height_at : {K : Type 0} → List (Node K) → Link → ℕ
height_at nodes None = 0
height_at nodes (Some i) = told_height (slice_get nodes i)

-- a link leads into the memory
abbrev pub Reaches : {K : Type 0} → List (Node K) → Link → Type 0
Reaches nodes None = Unit {0}
Reaches nodes (Some i) = i < length nodes

-- the tree stands at a link, its slots are distinct, and it is at most so high
pub record Placed {K : Type 0} (limit : ℕ) (nodes : List (Node K)) (at : Link) (t : Avl K) : Type 0 where
  pub stands : Stands nodes at t
  pub distinct : Distinct (slots t)
  pub low : height t ≤ limit

-- some tree is placed there
abbrev pub HoldsATree : {K : Type 0} → ℕ → List (Node K) → Link → Type 0
HoldsATree {K} limit nodes at = (t : Avl K) × Placed limit nodes at t

-- from `nodes` to `after` the tree t came to stand at `at`, and only slots of `used` changed
pub record Reshaped {K : Type 0} (nodes after : List (Node K)) (used : List ℕ) (at : Link) (t : Avl K) : Type 0 where
  pub stands : Stands after at t
  pub frame : (j : ℕ) → Apart j used → slice_get after j ≡ slice_get nodes j
