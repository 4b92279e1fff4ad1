use Rattle.std.proofs.Common.{◌≡◌, ℕ, List, [], ◌∷◌, map, length, Ordering, ap, ◌∙◌}
use Rattle.keys.specs.contracts.counts.CountOrderedKey.TheImpl.{ghosts as count_ordered}
use Rattle.keys.specs.declared.counts.Count.{Count}
use Rattle.books.specs.Calls.{Call, Add, Take, Find, SeekFrom, SeekAfter, Answer}
use Rattle.books.specs.Meaning.{known}
use Rattle.avl.specs.Avl.{Avl, tip, fork, balance, entries}
use Rattle.avl.specs.Model.{TreeModel, tree_step, new_tree}
use Rattle.tree.specs.Standing.{link_of}
use Rattle.tree.specs.Shapes.{first_of, next_of, shape_at}
use Rattle.tree.proofs.clients.tree_of_four.Goals as goal

abbrev by_number : Count → Count → Ordering
by_number = count_ordered.order

abbrev count : ℕ → Count
count n = record { 0 = n }

abbrev leaf : ℕ → ℕ → ℕ → Avl Count
leaf slot n ticket = fork slot (count n) ticket tip tip

-- a tree in four slots, by its free slots, the lowest never used and how many comparisons the latest call made
abbrev four : Avl Count → List ℕ → ℕ → ℕ → TreeModel Count
four t free fresh comparisons = record { tree = t; free = free; fresh = fresh; room = 4; comparisons = comparisons }

abbrev two_held : Avl Count
two_held = fork 0 (count 1) 10 tip (leaf 1 2 20)

abbrev three_held : Avl Count
three_held = fork 1 (count 2) 20 (leaf 0 1 10) (leaf 2 3 30)

abbrev one_gone : Avl Count
one_gone = fork 1 (count 3) 30 (leaf 0 1 10) tip

-- what a call answers and leaves is computed from the tree before it
module _ (call : Call Count) (before : TreeModel Count) {m : TreeModel Count} (is : m ≡ before) where
  answered : {a : Answer Count} → a ≡ (tree_step by_number m call).0 → a ≡ (tree_step by_number before call).0
  answered e = e ∙ ap (λ n. (tree_step by_number n call).0) is

  left : {n : TreeModel Count} → n ≡ (tree_step by_number m call).1 → n ≡ (tree_step by_number before call).1
  left e = e ∙ ap (λ n. (tree_step by_number n call).1) is

pub returns : goal.returns
unfolding balance
returns c =
    -- the tree before each call
    let at_first = c.new-tree.ensures in
    let after_added = left (Add (count 1) 10) (new_tree 4) at_first c.add-added.ensures.left in
    let after_two = left (Add (count 2) 20) (four (leaf 0 1 10) [] 1 0) after_added c.add.ensures.left in
    let after_three = left (Add (count 3) 30) (four two_held [] 2 1) after_two c.add-2.ensures.left in
    let after_again = left (Add (count 3) 40) (four three_held [] 3 2) after_three c.add-again.ensures.left in
    let after_taken = left (Take (count 2)) (four three_held [] 3 2) after_again c.take-taken.ensures.left in
    let after_missing = left (Take (count 2)) (four one_gone (2 ∷ []) 3 1) after_taken c.take-missing.ensures.left in
    let after_found = left (Find (count 3)) (four one_gone (2 ∷ []) 3 2) after_missing c.find-found.ensures.left in
    let after_from = left (SeekFrom (count 2)) (four one_gone (2 ∷ []) 3 1) after_found c.seek_from-from.ensures.left in
    let at_last = left (SeekAfter (count 3)) (four one_gone (2 ∷ []) 3 2) after_from c.seek_after-after.ensures.left in
    record {
      added = cc (answered (Add (count 1) 10) (new_tree 4) at_first c.add-added.ensures.answer);
      again = cc (answered (Add (count 3) 40) (four three_held [] 3 2) after_three c.add-again.ensures.answer);
      root = c.root-root.ensures ∙ ap (λ m. link_of m.tree) after_again;
      comparisons = c.comparisons-comparisons.ensures ∙ ap (λ m. m.comparisons) after_again;
      taken = cc (answered (Take (count 2)) (four three_held [] 3 2) after_again c.take-taken.ensures.answer);
      missing = cc (answered (Take (count 2)) (four one_gone (2 ∷ []) 3 1) after_taken c.take-missing.ensures.answer);
      found = cc (answered (Find (count 3)) (four one_gone (2 ∷ []) 3 2) after_missing c.find-found.ensures.answer);
      from = cc (answered (SeekFrom (count 2)) (four one_gone (2 ∷ []) 3 1) after_found c.seek_from-from.ensures.answer);
      after = cc (answered (SeekAfter (count 3)) (four one_gone (2 ∷ []) 3 2) after_from c.seek_after-after.ensures.answer);
      moved = c.shape.ensures ∙ ap (λ m. shape_at m.tree 1) at_last;
      emptied = c.shape-2.ensures ∙ ap (λ m. shape_at m.tree 2) at_last;
      free = c.first_free.ensures ∙ ap (λ m. first_of m.free) at_last;
      next = c.free_after.ensures ∙ ap (λ m. next_of m.free 2) at_last;
      fresh = c.fresh.ensures ∙ ap (λ m. m.fresh) at_last;
      left = c.count.ensures ∙ ap (λ m. length (map known (entries m.tree))) at_last;
      room = c.capacity.ensures ∙ ap (λ m. m.room) at_last;
    }
