-- A tree in its slots: what each call answers and leaves, in good order and out of it.
use Rattle.std.specs.Prelude.{◌≡◌, ℕ, suc, ◌+◌, ◌<◌, ◌≤◌, true, false, cond, List, [], ◌∷◌, ◌++◌, length, Some, None, Ok, Option, ◌==◌, ◌≢◌}
use Rattle.std.specs.declared.cmp.Ordering.{Ordering}
use Rattle.std.specs.List.{AllByRecursion}
use Rattle.books.specs.Calls.{Call, Add, Take, Find, SeekFrom, SeekAfter, Answer, Added, Taken, Found, Sought, refused}
use Rattle.books.specs.Plain.{add_answer, take_answer, where_ok}
use Rattle.avl.specs.Avl.{Avl, tip, size, Balanced, slots, insert, remove, freed, find, seek, path, relabel}
use Rattle.keys.specs.declared.refusals.Refusal.TheVariants.{NoSlots}

pub record TreeModel (K : Type 0) : Type 0 where
  pub tree : Avl K
  -- the free slots, the next one to be used first
  pub free : List ℕ
  -- the lowest slot never used
  pub fresh : ℕ
  -- how many slots there are
  pub room : ℕ
  -- how many comparisons the latest add, take, find or seek made
  pub comparisons : ℕ

-- a new node gets the slot freed most recently, else the lowest never used
abbrev pub next_slot : List ℕ → ℕ → ℕ
next_slot [] fresh = fresh
next_slot (i ∷ free) fresh = i

abbrev pub free_after : List ℕ → List ℕ
free_after [] = []
free_after (i ∷ free) = free

abbrev pub fresh_after : List ℕ → ℕ → ℕ
fresh_after [] fresh = suc fresh
fresh_after (i ∷ free) fresh = fresh

abbrev pub freed_first : Option ℕ → List ℕ → List ℕ
freed_first None free = free
freed_first (Some i) free = i ∷ free

-- only the count of comparisons changes
abbrev pub counted : {K : Type 0} → ℕ → TreeModel K → TreeModel K
counted n m = record { tree = m.tree; free = m.free; fresh = m.fresh; room = m.room; comparisons = n }

abbrev pub grown : {K : Type 0} → (K → K → Ordering) → TreeModel K → K → ℕ → TreeModel K
grown order m k v = record {
  tree = insert order m.tree k v (next_slot m.free m.fresh);
  free = free_after m.free;
  fresh = fresh_after m.free m.fresh;
  room = m.room;
  comparisons = path false order m.tree k;
}

abbrev pub shrunk : {K : Type 0} → (K → K → Ordering) → TreeModel K → K → TreeModel K
shrunk order m k = record {
  tree = remove order m.tree k;
  free = freed_first (freed order m.tree k) m.free;
  fresh = m.fresh;
  room = m.room;
  comparisons = path false order m.tree k;
}

-- a call on a tree that has slots
abbrev pub served_step : {K : Type 0} → (K → K → Ordering) → TreeModel K → Call K → Answer K × TreeModel K
served_step order m (Add k v) = (
  Added (add_answer (find order m.tree k) (size m.tree) m.room),
  where_ok (add_answer (find order m.tree k) (size m.tree) m.room) (grown order m k v) (counted (path false order m.tree k) m),
)
served_step order m (Take k) = (
  Taken (take_answer (find order m.tree k)),
  where_ok (take_answer (find order m.tree k)) (shrunk order m k) (counted (path false order m.tree k) m),
)
served_step order m (Find k) = (Found (Ok (find order m.tree k)), counted (path false order m.tree k) m)
served_step order m (SeekFrom k) = (Sought (Ok (seek false order m.tree k)), counted (path false order m.tree k) m)
served_step order m (SeekAfter k) = (Sought (Ok (seek true order m.tree k)), counted (path true order m.tree k) m)

-- before all else: are there slots?
abbrev pub tree_step : {K : Type 0} → (K → K → Ordering) → TreeModel K → Call K → Answer K × TreeModel K
tree_step order m c = cond (m.room == 0) (refused c NoSlots, counted 0 m) (served_step order m c)

-- a new tree
abbrev pub new_tree : {K : Type 0} → ℕ → TreeModel K
new_tree room = record { tree = tip; free = []; fresh = 0; room = room; comparisons = 0 }

abbrev pub Apart : ℕ → List ℕ → Type 0
Apart j l = AllByRecursion (λ i. j ≢ i) l

abbrev pub Distinct : List ℕ → Type 0
Distinct [] = Unit {0}
Distinct (i ∷ l) = Apart i l × Distinct l

-- what holds of every tree in its slots: it is balanced, and the slots below `fresh` are those of the tree and the free ones, each once
pub record Sound {K : Type 0} (m : TreeModel K) : Type 0 where
  pub balanced : Balanced m.tree
  pub distinct : Distinct (slots m.tree ++ m.free)
  pub below : AllByRecursion (λ i. i < m.fresh) (slots m.tree ++ m.free)
  pub all_used : size m.tree + length m.free ≡ m.fresh
  pub within : m.fresh ≤ m.room
  pub few : m.room ≤ 65535

abbrev pub relabelled_model : {K L : Type 0} → (K → L) → TreeModel K → TreeModel L
relabelled_model g m = record { tree = relabel g m.tree; free = m.free; fresh = m.fresh; room = m.room; comparisons = m.comparisons }
