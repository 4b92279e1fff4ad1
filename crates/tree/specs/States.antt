-- What node memory and a tree's numbers mean: the tree, the free slots, and that all is sound.
use Rattle.std.specs.Prelude.{◌≡◌, ℕ, zero, suc, ◌+◌, max, Bool, true, false, not, ◌&&◌, ltb, List, [], ◌∷◌, ◌++◌, length, Some, None, Option, ◌==◌, nat_le, nat_lt, slice_set}
use Rattle.std.specs.List.{slice_get}
use Rattle.std.specs.Option.{option_eq}
use Rattle.books.specs.Calls.{Call, SeekFrom, SeekAfter}
use Rattle.books.specs.Meaning.{usable}
use Rattle.books.specs.Plain.{entry}
use Rattle.avl.specs.Avl.{Avl, tip, fork, height, size, slots}
use Rattle.avl.specs.Model.{TreeModel, Sound, next_slot, free_after, fresh_after}
use Rattle.tree.specs.Links.{Link}
use Rattle.tree.specs.declared.nodes.Node.{Node}
use Rattle.tree.specs.declared.states.Spot.{Spot}
use Rattle.tree.specs.declared.states.State.{State}
use Rattle.tree.specs.Standing.{link_of, Stands}

-- the tree at a link, to a depth; no tree in its slots is deeper than 100
abbrev pub read_node : {K : Type 0} → ℕ → Option (Node K) → (Link → Avl K) → Avl K
read_node i None side = tip
read_node i (Some n) side = fork i n.entry.key n.entry.ticket (side n.left) (side n.right)

unfoldable pub read_tree : {K : Type 0} → ℕ → List (Node K) → Link → Avl K
read_tree zero nodes at = tip
read_tree (suc depth) nodes None = tip
read_tree (suc depth) nodes (Some i) = read_node i (slice_get nodes i) (read_tree depth nodes)

unfoldable pub tree_at : {K : Type 0} → List (Node K) → Link → Avl K
tree_at nodes at = read_tree 100 nodes at

-- the free slots from a link on, each of which leads to the one freed before it
abbrev pub read_link : {K : Type 0} → ℕ → Option (Node K) → (Link → List ℕ) → List ℕ
read_link i None rest = []
read_link i (Some n) rest = i ∷ rest n.left

unfoldable pub read_free : {K : Type 0} → ℕ → List (Node K) → Link → List ℕ
read_free zero nodes at = []
read_free (suc most) nodes None = []
read_free (suc most) nodes (Some i) = read_link i (slice_get nodes i) (read_free most nodes)

unfoldable pub free_at : {K : Type 0} → List (Node K) → Link → List ℕ
free_at nodes at = read_free (length nodes) nodes at

-- the model of a tree in its memory
abbrev pub model_of : {K : Type 0} → List (Node K) → State → TreeModel K
model_of nodes state = record {
  tree = tree_at nodes state.root;
  free = free_at nodes state.free;
  fresh = state.fresh;
  room = usable (length nodes);
  comparisons = state.comparisons;
}

-- only the count of comparisons changes
abbrev pub counted_state : State → ℕ → State
counted_state state n = record { root = state.root; free = state.free; fresh = state.fresh; held = state.held; comparisons = n }

-- the seek from s, or after s
abbrev pub seek_call : {K : Type 0} → Bool → K → Call K
seek_call false s = SeekFrom s
seek_call true s = SeekAfter s

-- a free slot's node: height 0, and a link to the slot freed before it
abbrev pub free_node : {K : Type 0} → Node K → Link → Node K
free_node n next = record { entry = entry n.entry.key 0; left = next; right = None; height = 0 }

-- slot i became free: its node leads on to the slots freed before it
pub record MadeFree {K : Type 0} (nodes : List (Node K)) (i : ℕ) (next : Link) (after : List (Node K)) : Type 0 where
  pub node : Node K
  pub was : slice_get nodes i ≡ Some node
  pub is : after ≡ slice_set nodes i (free_node node next)

-- the free slots stand in memory as a list
abbrev pub Chain : {K : Type 0} → List (Node K) → Link → List ℕ → Type 0
Chain nodes at [] = at ≡ None
Chain {K} nodes at (i ∷ free) = (at ≡ Some i) × ((n : Node K) × ((slice_get nodes i ≡ Some n) × (n.height ≡ 0) × Chain nodes n.left free))

-- the tree and the free slots stand in memory, and the model is sound
pub record StandsSoundly {K : Type 0} (nodes : List (Node K)) (state : State) (m : TreeModel K) : Type 0 where
  pub tree_stands : Stands nodes state.root m.tree
  pub free_stands : Chain nodes state.free m.free
  pub fresh_is : state.fresh ≡ m.fresh
  pub room_is : usable (length nodes) ≡ m.room
  pub comparisons_is : state.comparisons ≡ m.comparisons
  pub held_is : state.held ≡ size m.tree
  pub sound : Sound m

-- The same as a test, so that a tree can carry it as its invariant.
abbrev pub same_link : Link → Link → Bool
same_link a b = option_eq (λ i j. i == j) a b

abbrev pub tells : {K : Type 0} → Option (Node K) → Avl K → Avl K → Bool
tells None a b = false
tells (Some n) a b = same_link n.left (link_of a) && (same_link n.right (link_of b) && n.height == suc (max (height a) (height b)))

abbrev pub lies : {K : Type 0} → List (Node K) → Avl K → Bool
lies nodes tip = true
lies nodes (fork i k v a b) = tells (slice_get nodes i) a b && (lies nodes a && lies nodes b)

abbrev pub is_free : {K : Type 0} → Option (Node K) → (Link → Bool) → Bool
is_free None rest = false
is_free (Some n) rest = n.height == 0 && rest n.left

abbrev pub chained : {K : Type 0} → List (Node K) → List ℕ → Link → Bool
chained nodes [] at = same_link at None
chained nodes (i ∷ free) at = same_link at (Some i) && is_free (slice_get nodes i) (chained nodes free)

abbrev pub balanced : {K : Type 0} → Avl K → Bool
balanced tip = true
balanced (fork i k v a b) = nat_le (height a) (suc (height b)) && (nat_le (height b) (suc (height a)) && (balanced a && balanced b))

abbrev pub apart : ℕ → List ℕ → Bool
apart j [] = true
apart j (i ∷ l) = not (j == i) && apart j l

abbrev pub distinct : List ℕ → Bool
distinct [] = true
distinct (i ∷ l) = apart i l && distinct l

abbrev pub all_below : ℕ → List ℕ → Bool
all_below n [] = true
all_below n (i ∷ l) = nat_lt i n && all_below n l

abbrev pub model_sound : {K : Type 0} → TreeModel K → Bool
model_sound m =
    balanced m.tree && (distinct (slots m.tree ++ m.free) && (all_below m.fresh (slots m.tree ++ m.free)
    && (size m.tree + length m.free == m.fresh && nat_le m.fresh m.room)))

unfoldable pub sound_in : {K : Type 0} → List (Node K) → State → Bool
sound_in nodes state =
    lies nodes (tree_at nodes state.root) && (same_link state.root (link_of (tree_at nodes state.root))
    && (chained nodes (free_at nodes state.free) state.free
    && (state.held == size (tree_at nodes state.root) && model_sound (model_of nodes state))))

-- memory and numbers that are sound, and mean the model m
pub record Means {K : Type 0} (nodes : List (Node K)) (state : State) (m : TreeModel K) : Type 0 where
  pub sound : sound_in nodes state ≡ true
  pub model : model_of nodes state ≡ m

-- where a new node goes, if there is a slot, and what is free and never used then
pub record NextSpot {K : Type 0} (nodes : List (Node K)) (m : TreeModel K) (spot : Spot) : Type 0 where
  pub full : ltb (size m.tree) m.room ≡ false → spot.slot ≡ None
  pub slot : ltb (size m.tree) m.room ≡ true → spot.slot ≡ Some (next_slot m.free m.fresh)
  pub free : ltb (size m.tree) m.room ≡ true → Chain nodes spot.free (free_after m.free)
  pub fresh : ltb (size m.tree) m.room ≡ true → spot.fresh ≡ fresh_after m.free m.fresh
