-- An accepted add leaves the grown tree, and a refused one alters nothing but the count of comparisons.
use Rattle.std.proofs.Common.{◌≡◌, ℕ, suc, ◌+◌, ◌≤◌, Bool, true, false, not, ltb, List, [], ◌∷◌, ◌++◌, length, is_some, Some, None, Ok, Err, Option, Result, Ordering, sym, refl, ap, ◌∙◌, subst, arith}
use Rattle.std.specs.List.{slice_get, AllByRecursion}
use Rattle.digits.proofs.Every.{all_weaker}
use Rattle.keys.specs.Refusals.{asked}
use Rattle.keys.specs.declared.refusals.Refusal.{Refusal}
use Rattle.books.specs.Calls.{Call, Add, Answer, Added}
use Rattle.books.specs.Plain.{where_ok}
use Rattle.books.specs.Meaning.{usable}
use Rattle.avl.specs.Avl.{size, slots, insert, find, path}
use Rattle.avl.specs.Model.{TreeModel, next_slot, free_after, counted, grown, served_step, Apart, Distinct, Sound}
use Rattle.avl.proofs.Slots.{split, crossed, insert_size}
use Rattle.avl.proofs.Soundness.{size_within}
use Rattle.tree.specs.declared.counted.Counted.{Counted}
use Rattle.tree.specs.Links.{Link}
use Rattle.tree.specs.declared.nodes.Node.{Node}
use Rattle.tree.specs.declared.states.State.{State}
use Rattle.tree.specs.declared.states.Spot.{Spot}
use Rattle.tree.specs.Standing.{Reshaped}
use Rattle.tree.specs.Changes.{GrownBy, Inserted, Inserts}
use Rattle.tree.specs.States.{StandsSoundly, NextSpot, counted_state}
use Rattle.tree.proofs.Soundness.{stands_from_test}
use Rattle.tree.proofs.Spots.{can_grow}
use Rattle.tree.proofs.Steps.{chain_still, CallDone, done_so, Begun, done, counted_done}
use Rattle.keys.specs.declared.refusals.Refusal.TheVariants.{KeyHeld, BookFull}

-- no slot that stays free is the new node's, or in the tree
stays_free : (held free : List ℕ) (fresh : ℕ) → Distinct (held ++ free) → AllByRecursion (λ j. Apart j (next_slot free fresh ∷ held)) (free_after free)
stays_free held [] fresh d = tt
stays_free held (i ∷ free) fresh d =
    let parts = split held (i ∷ free) d in
    crossed (i ∷ held) free (parts.right.0, all_weaker (λ j. Apart j (i ∷ free)) (λ j. Apart j free) (λ j p. p.1) held parts.left_right)

module _ {K : Type 0} {order : K → K → Ordering} {step : Call K → Answer K × TreeModel K} {nodes : List (Node K)} {state : State} {m : TreeModel K} (b : Begun order step nodes state m)
    {k : K} {v : ℕ} {spot : Spot} (next : NextSpot nodes m spot) {after : List (Node K)} (kept : length after ≡ length nodes) {r : Counted (Result Link Refusal)} (inserts : Inserts order nodes state.root spot.slot k v after r) where
  -- by what is found, and whether there is a slot, what an add answers and leaves
  abbrev add_outcome : Option ℕ → Bool → Answer K × TreeModel K
  add_outcome found some = (
    Added (asked (not (is_some found)) KeyHeld (asked some BookFull (Ok tt))),
    where_ok (asked {X = Unit {0}} (not (is_some found)) KeyHeld (asked some BookFull (Ok tt))) (grown order m k v) (counted (path false order m.tree k) m),
  )

  add_is : (found : Option ℕ) (some : Bool) → find order m.tree k ≡ found → ltb (size m.tree) m.room ≡ some → served_step order m (Add k v) ≡ add_outcome found some
  add_is found some f e = ap (λ o. add_outcome o (ltb (size m.tree) m.room)) f ∙ ap (add_outcome found) e

  inserted : Inserted order nodes spot.slot m.tree k v after r
  inserted = inserts m.tree (can_grow nodes state m b.stands spot next)

  -- the same where it is known whether there is a slot
  in_slot : (found : Option ℕ) {slot : Link} → spot.slot ≡ slot → GrownBy order found spot.slot nodes m.tree k v after r.answer → GrownBy order found slot nodes m.tree k v after r.answer
  in_slot found is out = subst (λ slot. GrownBy order found slot nodes m.tree k v after r.answer) is out

  -- the numbers that an accepted add leaves
  abbrev grown_state : Link → State
  grown_state root = record { root = root; free = spot.free; fresh = spot.fresh; held = state.held + 1; comparisons = r.comparisons }

  grown_stands : (root : Link) → find order m.tree k ≡ None → ltb (size m.tree) m.room ≡ true →
      Reshaped nodes after (next_slot m.free m.fresh ∷ slots m.tree) root (insert order m.tree k v (next_slot m.free m.fresh)) →
      Sound (grown order m k v) → StandsSoundly after (grown_state root) (grown order m k v)
  grown_stands root none some shaped sound =
      let slot = next_slot m.free m.fresh in
      let more = insert_size order k v slot m.tree none in
      let held = b.stands.held_is in
      record {
        tree_stands = shaped.stands;
        free_stands = chain_still nodes after (free_after m.free) spot.free
            (all_weaker (λ j. Apart j (slot ∷ slots m.tree)) (λ j. slice_get after j ≡ slice_get nodes j) shaped.frame (free_after m.free) (stays_free (slots m.tree) m.free m.fresh b.stands.sound.distinct))
            (next.free some);
        fresh_is = next.fresh some;
        room_is = ap usable kept ∙ b.stands.room_is;
        comparisons_is = inserted.comparisons;
        held_is = (let e : state.held + 1 ≡ suc (size m.tree) = omega arith in e) ∙ sym more;
        sound = sound;
      }

  pub added_done : {root : Link} → r.answer ≡ Ok root → CallDone (step (Add k v)) (Added (Ok tt)) after (grown_state root)
  added_done {root} is = by (find order m.tree k) (ltb (size m.tree) m.room) refl refl inserted.outcome
    where
      by : (found : Option ℕ) (some : Bool) → find order m.tree k ≡ found → ltb (size m.tree) m.room ≡ some → GrownBy order found spot.slot nodes m.tree k v after r.answer →
          CallDone (step (Add k v)) (Added (Ok tt)) after (grown_state root)
      by (Some held) some f e out = absurd (let no = out.0 in cc)
      by None false f e out = absurd (let no = (in_slot None (next.full e) out).0 in cc)
      by None true f e out =
          let grew = in_slot None (next.slot e) out in
          let told = grew.1.0 in
          let at : grew.0 ≡ root = cc in
          done b (Add k v) (add_is None true f e)
          (grown_stands root f e (subst (λ root. Reshaped nodes after (next_slot m.free m.fresh ∷ slots m.tree) root (insert order m.tree k v (next_slot m.free m.fresh))) at grew.1.1))

  -- the count of pairs still fits: there are no more than slots
  pub count_fits : {root : Link} → r.answer ≡ Ok root → state.held + 1 ≤ 65535
  count_fits {root} is =
      let stood = stands_from_test after (grown_state root) (added_done is).leaves.sound in
      let within = size_within _ stood.sound in
      let few = stood.sound.few in
      let held = stood.held_is in
      omega arith

  -- an add that is refused only counts its comparisons
  refused_done : {refusal told : Refusal} → r.answer ≡ Err refusal → r.answer ≡ Err told → after ≡ nodes →
      served_step order m (Add k v) ≡ (Added (Err told), counted (path false order m.tree k) m) → CallDone (step (Add k v)) (Added (Err refusal)) after (counted_state state r.comparisons)
  refused_done {refusal} {told} is answers same step =
      let as_told : refusal ≡ told = cc in
      done_so (ap (λ e. Added (Err e)) as_told) same (ap (counted_state state) inserted.comparisons) (counted_done b (Add k v) step)

  pub not_added_done : {refusal : Refusal} → r.answer ≡ Err refusal → CallDone (step (Add k v)) (Added (Err refusal)) after (counted_state state r.comparisons)
  not_added_done {refusal} is = by (find order m.tree k) (ltb (size m.tree) m.room) refl refl inserted.outcome
    where
      by : (found : Option ℕ) (some : Bool) → find order m.tree k ≡ found → ltb (size m.tree) m.room ≡ some → GrownBy order found spot.slot nodes m.tree k v after r.answer →
          CallDone (step (Add k v)) (Added (Err refusal)) after (counted_state state r.comparisons)
      by (Some held) some f e out = refused_done is out.0 out.1 (add_is (Some held) some f e)
      by None false f e out = let none = in_slot None (next.full e) out in refused_done is none.0 none.1 (add_is None false f e)
      by None true f e out = absurd (let told = (in_slot None (next.slot e) out).1.0 in cc)
