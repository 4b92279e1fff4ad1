-- An accepted take leaves the shrunk tree and one more free slot, and a refused one alters nothing but the count of comparisons.
use Rattle.std.proofs.Common.{◌≡◌, ℕ, ◌-◌, ◌<◌, ◌≤◌, false, List, length, Some, None, Ok, Err, Option, Ordering, sym, refl, ap, ◌∙◌, subst, arith}
use Rattle.std.specs.List.{slice_get}
use Rattle.std.proofs.lemmas.List.{length-set}
use Rattle.digits.proofs.Every.{all_weaker, all_contains, all_left}
use Rattle.books.specs.Calls.{Call, Take, Answer, Taken}
use Rattle.books.specs.Plain.{where_ok, take_answer}
use Rattle.books.specs.Meaning.{usable}
use Rattle.books.proofs.Cuts.{more_has}
use Rattle.books.proofs.Usable.{usable_within}
use Rattle.avl.specs.Avl.{slots, remove, freed, find, path}
use Rattle.avl.specs.Model.{TreeModel, freed_first, counted, shrunk, served_step, Apart, Sound}
use Rattle.avl.proofs.Inorder.{remove_slots}
use Rattle.avl.proofs.Slots.{split, crossed, distinct_less, remove_size}
use Rattle.tree.specs.declared.changes.Cut.{Cut}
use Rattle.tree.specs.declared.counted.Counted.{Counted}
use Rattle.tree.specs.declared.nodes.Node.{Node}
use Rattle.tree.specs.declared.states.State.{State}
use Rattle.tree.specs.Standing.{Reshaped}
use Rattle.tree.specs.Changes.{ShrunkBy, Removed, Removes}
use Rattle.tree.specs.States.{Chain, StandsSoundly, MadeFree, free_node, counted_state}
use Rattle.tree.proofs.Standing.{nth_set_same, nth_set_other, stands_still}
use Rattle.tree.proofs.Spots.{can_shrink}
use Rattle.tree.proofs.Steps.{chain_still, CallDone, done_so, Begun, done, counted_done}
use Rattle.keys.specs.declared.refusals.Refusal.TheVariants.{KeyNotHeld}

module _ {K : Type 0} {order : K → K → Ordering} {step : Call K → Answer K × TreeModel K} {nodes : List (Node K)} {state : State} {m : TreeModel K} (b : Begun order step nodes state m)
    {k : K} {after : List (Node K)} (kept : length after ≡ length nodes) {r : Counted (Option (Cut ℕ))} (removes : Removes order nodes state.root k after r) where
  -- by what is found, what a take answers and leaves
  abbrev take_outcome : Option ℕ → Answer K × TreeModel K
  take_outcome found = (Taken (take_answer found), where_ok (take_answer found) (shrunk order m k) (counted (path false order m.tree k) m))

  take_is : (found : Option ℕ) → find order m.tree k ≡ found → served_step order m (Take k) ≡ take_outcome found
  take_is found f = ap take_outcome f

  removed : Removed order nodes m.tree k after r
  removed = removes m.tree (can_shrink nodes state m b.stands)

  -- what goes was found, and left a slot of the tree
  record Went (gone : Cut ℕ) : Type 0 where
    found : find order m.tree k ≡ Some gone.out
    spare : freed order m.tree k ≡ Some gone.slot
    shaped : Reshaped nodes after (slots m.tree) gone.top (remove order m.tree k)

  went : (gone : Cut ℕ) → r.answer ≡ Some gone → Went gone
  went gone is = by (find order m.tree k) refl removed.outcome
    where
      by : (found : Option ℕ) → find order m.tree k ≡ found → ShrunkBy order found nodes m.tree k after r.answer → Went gone
      by None f out = absurd (let no = out.0 in cc)
      by (Some held) f out =
          let told = out.1.0 in
          let same : out.0 ≡ gone = cc in
          let ticket = out.1.1 in
          subst Went same (record { found = f ∙ ap Some (sym ticket); spare = out.1.2; shaped = out.1.3 })

  pub not_taken_done : r.answer ≡ None → CallDone (step (Take k)) (Taken (Err KeyNotHeld)) after (counted_state state r.comparisons)
  not_taken_done is = by (find order m.tree k) refl removed.outcome
    where
      by : (found : Option ℕ) → find order m.tree k ≡ found → ShrunkBy order found nodes m.tree k after r.answer → CallDone (step (Take k)) (Taken (Err KeyNotHeld)) after (counted_state state r.comparisons)
      by None f out =
          done_so refl out.1 (ap (counted_state state) removed.comparisons) (counted_done b (Take k) (take_is None f))
      by (Some held) f out = absurd (let told = out.1.0 in cc)

  module _ {gone : Cut ℕ} (is : r.answer ≡ Some gone) where
    -- a slot of the tree is in the memory
    pub gone_inside : gone.slot < length after
    gone_inside =
        let out = remove_slots order k m.tree gone.slot (went gone is).spare in
        let low = all_contains (λ i. i < m.fresh) (slots m.tree) gone.slot (all_left (λ i. i < m.fresh) (slots m.tree) m.free b.stands.sound.below) (more_has gone.slot _ _ out) in
        let within = usable_within (length nodes) in
        omega arith

    pub pair_held : 1 ≤ state.held
    pair_held = let less = remove_size order k gone.slot m.tree (went gone is).spare in omega arith

    -- the numbers that an accepted take leaves
    abbrev shrunk_state : State
    shrunk_state = record { root = gone.top; free = Some gone.slot; fresh = state.fresh; held = state.held - 1; comparisons = r.comparisons }

    module _ {last : List (Node K)} (freeing : MadeFree after gone.slot state.free last) where
      -- the slots that stay free were not in the tree
      free_still : Chain last state.free m.free
      free_still =
          let w = went gone is in
          let out = remove_slots order k m.tree gone.slot w.spare in
          let same : (j : ℕ) → Apart j (slots m.tree) → slice_get last j ≡ slice_get nodes j = λ j apart.
          ap (λ l. slice_get l j) freeing.is ∙ (nth_set_other after gone.slot j (free_node freeing.node state.free) (all_contains (λ i. j ≡ i → ⊥) (slots m.tree) gone.slot apart (more_has gone.slot _ _ out)) ∙ w.shaped.frame j apart) in
          chain_still nodes last m.free state.free
          (all_weaker (λ j. Apart j (slots m.tree)) (λ j. slice_get last j ≡ slice_get nodes j) same m.free (crossed (slots m.tree) m.free (split (slots m.tree) m.free b.stands.sound.distinct).left_right))
          b.stands.free_stands

      shrunk_stands : Sound (shrunk order m k) → StandsSoundly last shrunk_state (shrunk order m k)
      shrunk_stands sound =
          let w = went gone is in
          let out = remove_slots order k m.tree gone.slot w.spare in
          let less = remove_size order k gone.slot m.tree w.spare in
          let apart = (distinct_less gone.slot _ _ out (split (slots m.tree) m.free b.stands.sound.distinct).left).0 in
          let node = free_node freeing.node state.free in
          let held = b.stands.held_is in
          let same : (j : ℕ) → (gone.slot ≡ j → ⊥) → slice_get last j ≡ slice_get after j = λ j ne. ap (λ l. slice_get l j) freeing.is ∙ nth_set_other after gone.slot j node (λ e. ne (sym e)) in
          let long : length last ≡ length nodes = ap length freeing.is ∙ (length-set after gone.slot node ∙ kept) in
          record {
            tree_stands = stands_still after last gone.top (remove order m.tree k)
                (all_weaker (λ j. gone.slot ≡ j → ⊥) (λ j. slice_get last j ≡ slice_get after j) same (slots (remove order m.tree k)) apart) w.shaped.stands;
            free_stands = subst (λ o. Chain last (Some gone.slot) (freed_first o m.free)) (sym w.spare)
                (refl, (node, (ap (λ l. slice_get l gone.slot) freeing.is ∙ nth_set_same after gone.slot node gone_inside, refl, free_still)));
            fresh_is = b.stands.fresh_is;
            room_is = ap usable long ∙ b.stands.room_is;
            comparisons_is = removed.comparisons;
            held_is = omega arith;
            sound = sound;
          }

      pub taken_done : CallDone (step (Take k)) (Taken (Ok gone.out)) last shrunk_state
      taken_done = done b (Take k) (take_is (Some gone.out) (went gone is).found) shrunk_stands
