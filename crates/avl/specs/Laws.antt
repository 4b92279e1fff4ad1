-- What is shown of the tree, over every kind of key and every order.
use Rattle.std.specs.Prelude.{◌≡◌, ℕ, ◌<◌, ◌≤◌, ◌⊎◌}
use Rattle.std.specs.declared.cmp.Ordering.{Ordering}
use Rattle.std.specs.List.{Contains}
use Rattle.books.specs.Calls.{Call, call_key}
use Rattle.books.specs.Relabelling.{KeepsOrder, relabelled_call, relabelled_answer}
use Rattle.avl.specs.Avl.{entries, slots}
use Rattle.avl.specs.Model.{TreeModel, tree_step, new_tree, Sound, relabelled_model}

-- a slot holds a pair of the tree, or is free, or was never used, and only one of these
pub record OnePlace {K : Type 0} (m : TreeModel K) (j : ℕ) : Type 0 where
  pub some_place : Contains (slots m.tree) j ⊎ (Contains m.free j ⊎ (m.fresh ≤ j))
  pub not_held_and_free : Contains (slots m.tree) j → Contains m.free j → ⊥
  pub held_was_used : Contains (slots m.tree) j → j < m.fresh
  pub free_was_used : Contains m.free j → j < m.fresh

-- every add and take keeps a tree sound, its balance too, and in a sound tree each slot is in one place
pub record StaysSound (K : Type 0) : Type 0 where
  pub at_first : (room : ℕ) → room ≤ 65535 → Sound {K = K} (new_tree room)
  pub kept : (order : K → K → Ordering) (m : TreeModel K) (c : Call K) → Sound m → Sound (tree_step order m c).1
  pub placed : (m : TreeModel K) → Sound m → (j : ℕ) → OnePlace m j

-- a step of the tree, its keys shown by g: the same step, in the same slots, with as many comparisons
pub record TreeCommutes {K L : Type 0} (g : K → L) (order : K → K → Ordering) (order' : L → L → Ordering) (m : TreeModel K) (c : Call K) : Type 0 where
  pub answers : (tree_step order' (relabelled_model g m) (relabelled_call g c)).0 ≡ relabelled_answer g (tree_step order m c).0
  pub leaves : (tree_step order' (relabelled_model g m) (relabelled_call g c)).1 ≡ relabelled_model g (tree_step order m c).1

-- every call commutes with each relabelling that keeps how the call's key compares with the keys held
abbrev pub TreeStepsCommute : (K L : Type 0) → Type 0
TreeStepsCommute K L = (g : K → L) (order : K → K → Ordering) (order' : L → L → Ordering) (m : TreeModel K) (c : Call K) → KeepsOrder g order order' (call_key c) (entries m.tree) → TreeCommutes g order order' m c
