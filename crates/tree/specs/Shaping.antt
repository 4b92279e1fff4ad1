-- What rotations and balancing make of node memory.
use Rattle.std.specs.Prelude.{ℕ, ◌<◌, ◌≤◌, List, ◌∷◌, ◌++◌, length, suc, cond, nat_lt, Some, None, Option}
use Rattle.avl.specs.Avl.{Avl, height, slots, turn_right, turn_left, ready_left, ready_right}
use Rattle.avl.specs.Model.{Distinct}
use Rattle.tree.specs.Links.{Link}
use Rattle.tree.specs.declared.nodes.Node.{Node}
use Rattle.tree.specs.declared.nodes.Side.{Side}
use Rattle.tree.specs.declared.nodes.Side.TheVariants.{Left, Right}
use Rattle.tree.specs.Standing.{Stands, Placed, Reshaped}

-- slot i can be the node over the trees a and b, which stand at `left` and `right` and are at most so high
pub record Joining {K : Type 0} (limit : ℕ) (nodes : List (Node K)) (i : ℕ) (left right : Link) (a b : Avl K) : Type 0 where
  pub left_stands : Stands nodes left a
  pub right_stands : Stands nodes right b
  pub distinct : Distinct (slots a ++ (i ∷ slots b))
  pub within : i < length nodes
  pub left_low : height a ≤ limit
  pub right_low : height b ≤ limit

-- slot i can be the node n over the trees at its links, whatever height it tells
abbrev pub Joinable : {K : Type 0} → ℕ → List (Node K) → ℕ → Node K → Type 0
Joinable {K} limit nodes i n = (a : Avl K) × ((b : Avl K) × Joining limit nodes i n.left n.right a b)

-- the node over any two trees that stand there becomes the tree that `shape` makes of them
abbrev pub Joins : {K : Type 0} → ℕ → (ℕ → K → ℕ → Avl K → Avl K → Avl K) → List (Node K) → ℕ → Node K → List (Node K) → Link → Type 0
Joins {K} limit shape nodes i n after at =
    (a b : Avl K) → Joining limit nodes i n.left n.right a b → Reshaped nodes after (slots a ++ (i ∷ slots b)) at (shape i n.entry.key n.entry.ticket a b)

-- any tree that is placed there becomes the tree that `shape` makes of it
abbrev pub Turns : {K : Type 0} → ℕ → (Avl K → Avl K) → List (Node K) → Link → List (Node K) → Link → Type 0
Turns {K} limit shape nodes old after at = (t : Avl K) → Placed limit nodes old t → Reshaped nodes after (slots t) at (shape t)

-- the rotation that turns a side up
abbrev pub turn : {K : Type 0} → Side → ℕ → K → ℕ → Avl K → Avl K → Avl K
turn Left i k v a b = turn_right i k v a b
turn Right i k v a b = turn_left i k v a b

-- a side that is to come up
abbrev pub ready : {K : Type 0} → Side → Avl K → Avl K
ready Left t = ready_left t
ready Right t = ready_right t

-- the side that is higher by 2, of two sides so high
abbrev pub heavy : ℕ → ℕ → Option Side
heavy a b = cond (nat_lt (suc b) a) (Some Left) (cond (nat_lt (suc a) b) (Some Right) None)
