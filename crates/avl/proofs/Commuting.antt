-- A step of a tree, its keys shown by others that compare alike, is the same step.
use Rattle.std.proofs.Common.{◌≡◌, ℕ, Bool, true, false, cond, eqb, Ok, Result, Ordering, refl, ap}
use Rattle.books.specs.Calls.{Call, Add, Take, Find, SeekFrom, SeekAfter, Answer, Found, Sought, call_key, refused}
use Rattle.books.specs.Plain.{add_answer, take_answer, where_ok}
use Rattle.books.specs.Relabelling.{KeepsOrder, relabelled_call, relabelled_answer}
use Rattle.books.proofs.Answering.{where_ok_shown}
use Rattle.avl.specs.Avl.{entries, size, find, path}
use Rattle.avl.specs.Model.{TreeModel, next_slot, freed_first, counted, grown, shrunk, served_step, relabelled_model}
use Rattle.avl.specs.Laws.{TreeStepsCommute}
use Rattle.avl.proofs.Relabel.{relabel_size, relabel_insert, relabel_remove, relabel_freed, relabel_find, relabel_path, relabel_seek}
use Rattle.keys.specs.declared.refusals.Refusal.{Refusal}
use Rattle.keys.specs.declared.refusals.Refusal.TheVariants.{NoSlots}

-- an answer and the model left, their keys shown by g
record Shown {K L : Type 0} (g : K → L) (step : Answer K × TreeModel K) (step' : Answer L × TreeModel L) : Type 0 where
  answers : step'.0 ≡ relabelled_answer g step.0
  leaves : step'.1 ≡ relabelled_model g step.1

refused_shown : {K L : Type 0} (g : K → L) (c : Call K) (refusal : Refusal) → refused (relabelled_call g c) refusal ≡ relabelled_answer g (refused c refusal)
refused_shown g (Add s ticket) refusal = refl
refused_shown g (Take s) refusal = refl
refused_shown g (Find s) refusal = refl
refused_shown g (SeekFrom s) refusal = refl
refused_shown g (SeekAfter s) refusal = refl

module _ {K L : Type 0} (g : K → L) (m : TreeModel K) where
  counted_shown : (n n' : ℕ) → n' ≡ n → counted n' (relabelled_model g m) ≡ relabelled_model g (counted n m)
  counted_shown n n' e = ap (λ n. counted n (relabelled_model g m)) e

  -- what an add or a take leaves
  left_shown : {X : Type 0} (r r' : Result X Refusal) (changed : TreeModel K) (changed' : TreeModel L) (n n' : ℕ) → r' ≡ r → changed' ≡ relabelled_model g changed → n' ≡ n →
      where_ok r' changed' (counted n' (relabelled_model g m)) ≡ relabelled_model g (where_ok r changed (counted n m))
  left_shown r r' changed changed' n n' e f h =
      let w = where_ok_shown (relabelled_model g) r changed (counted n m) in
      let c = counted_shown n n' h in
      cc

module _ {K L : Type 0} (g : K → L) (order : K → K → Ordering) (order' : L → L → Ordering) (m : TreeModel K) where
  module _ (s : K) (kept : KeepsOrder g order order' s (entries m.tree)) where
    grown_shown : (v : ℕ) → grown order' (relabelled_model g m) (g s) v ≡ relabelled_model g (grown order m s v)
    grown_shown v =
        let t = relabel_insert g order order' s v (next_slot m.free m.fresh) m.tree kept in
        let p = relabel_path g order order' s false m.tree kept in
        λ i. record { tree = t i; free = (grown order m s v).free; fresh = (grown order m s v).fresh; room = m.room; comparisons = p i }

    shrunk_shown : shrunk order' (relabelled_model g m) (g s) ≡ relabelled_model g (shrunk order m s)
    shrunk_shown =
        let t = relabel_remove g order order' s m.tree kept in
        let f = relabel_freed g order order' s m.tree kept in
        let p = relabel_path g order order' s false m.tree kept in
        λ i. record { tree = t i; free = freed_first (f i) m.free; fresh = m.fresh; room = m.room; comparisons = p i }

  served_shown : (c : Call K) → KeepsOrder g order order' (call_key c) (entries m.tree) →
      Shown g (served_step order m c) (served_step order' (relabelled_model g m) (relabelled_call g c))
  served_shown (Add s ticket) kept =
      let f = relabel_find g order order' s m.tree kept in
      let z = relabel_size g m.tree in
      record {
        answers = cc;
        leaves = left_shown g m (add_answer (find order m.tree s) (size m.tree) m.room) _ (grown order m s ticket) _ (path false order m.tree s) _ (cc)
            (grown_shown s kept ticket) (relabel_path g order order' s false m.tree kept);
      }
  served_shown (Take s) kept =
      let f = relabel_find g order order' s m.tree kept in
      record {
        answers = cc;
        leaves = left_shown g m (take_answer (find order m.tree s)) _ (shrunk order m s) _ (path false order m.tree s) _ (cc)
            (shrunk_shown s kept) (relabel_path g order order' s false m.tree kept);
      }
  served_shown (Find s) kept = record { answers = ap (λ o. Found (Ok o)) (relabel_find g order order' s m.tree kept); leaves = counted_shown g m _ _ (relabel_path g order order' s false m.tree kept) }
  served_shown (SeekFrom s) kept = record { answers = ap (λ o. Sought (Ok o)) (relabel_seek g order order' s false m.tree kept); leaves = counted_shown g m _ _ (relabel_path g order order' s false m.tree kept) }
  served_shown (SeekAfter s) kept = record { answers = ap (λ o. Sought (Ok o)) (relabel_seek g order order' s true m.tree kept); leaves = counted_shown g m _ _ (relabel_path g order order' s true m.tree kept) }

-- where there are slots, and where there are none
either_shown : {K L : Type 0} (g : K → L) (t : Bool) (x y : Answer K × TreeModel K) (x' y' : Answer L × TreeModel L) → Shown g x x' → Shown g y y' → Shown g (cond t x y) (cond t x' y')
either_shown g true x y x' y' p q = p
either_shown g false x y x' y' p q = q

pub steps_commute : (K L : Type 0) → TreeStepsCommute K L
steps_commute K L g order order' m c kept =
    let r = either_shown g (eqb m.room 0) (refused c NoSlots, counted 0 m) (served_step order m c) (refused (relabelled_call g c) NoSlots, counted 0 (relabelled_model g m)) _
    (record { answers = refused_shown g c NoSlots; leaves = refl }) (served_shown g order order' m c kept) in
    record { answers = r.answers; leaves = r.leaves }
