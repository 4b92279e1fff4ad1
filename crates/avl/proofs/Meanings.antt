-- What the calls of a tree mean: in good order they are the plain book's, and in any order they move one pair or none.
use Rattle.std.proofs.Common.{◌≡◌, ℕ, Bool, true, false, eqb, List, map, Some, Ok, Err, Option, Result, Ordering, sym, refl, ap, subst, inl}
use Rattle.std.proofs.lemmas.Bool.{cond_both, eqb-true}
use Rattle.std.specs.List.{Contains}
use Rattle.books.specs.declared.entries.Entry.{Entry}
use Rattle.books.specs.Calls.{Call, Add, Take, Find, SeekFrom, SeekAfter, Added, Taken, Found, Sought, call_key, refused}
use Rattle.books.specs.Plain.{entry, put, take_out, add_answer, take_answer, where_ok}
use Rattle.books.specs.Meaning.{known, Adds, Takes, Seeks, Moves, AsThePlainBook, Meaning}
use Rattle.digits.proofs.Every.{all_weaker}
use Rattle.books.proofs.Cuts.{more_map, known_same, Cut, FamilyLaws, good_cut}
use Rattle.books.proofs.Answering.{add_all, take_all, unserved_means, found_held, sought_held, all_held}
use Rattle.avl.specs.Avl.{entries, size, find, seek, path, remove}
use Rattle.avl.specs.Model.{TreeModel, next_slot, counted, grown, shrunk, served_step, tree_step}
use Rattle.avl.proofs.Inorder.{size_entries, insert_one_more, remove_entries, find_all, seek_all, find_plain, seek_plain, insert_plain, remove_plain}
use Rattle.keys.specs.declared.refusals.Refusal.{Refusal}
use Rattle.keys.specs.declared.refusals.Refusal.TheVariants.{NoSlots}

-- the pairs of a model, as a book shows them
abbrev pairs : {K : Type 0} → TreeModel K → List (Option K × ℕ)
pairs m = map known (entries m.tree)

-- what an add or a take leaves, by what it makes where it is accepted
module _ {K X : Type 0} (m : TreeModel K) (n : ℕ) (changed : TreeModel K) where
  leaves_plain : (r : Result X Refusal) (es : List (Entry K)) → entries changed.tree ≡ es → pairs (where_ok r changed (counted n m)) ≡ map known (where_ok r es (entries m.tree))
  leaves_plain (Ok x) es e = ap (map known) e
  leaves_plain (Err refusal) es e = refl

  leaves_room : (r : Result X Refusal) → changed.room ≡ m.room → (where_ok r changed (counted n m)).room ≡ m.room
  leaves_room (Ok x) e = e
  leaves_room (Err refusal) e = refl

module _ {K : Type 0} (order : K → K → Ordering) (m : TreeModel K) where
  served_plain : (c : Call K) → Cut order (call_key c) (entries m.tree) →
      AsThePlainBook order m.room (entries m.tree) c (served_step order m c).0 (pairs (served_step order m c).1)
  served_plain (Add s ticket) cut =
      let f = find_plain order s m.tree cut in
      let z = size_entries m.tree in
      let l = leaves_plain m (path false order m.tree s) (grown order m s ticket) (add_answer (find order m.tree s) (size m.tree) m.room) (put order (entries m.tree) s ticket)
      (insert_plain order s ticket (next_slot m.free m.fresh) m.tree cut) in
      record { answers = cc; leaves = cc }
  served_plain (Take s) cut =
      let f = find_plain order s m.tree cut in
      let l = leaves_plain m (path false order m.tree s) (shrunk order m s) (take_answer (find order m.tree s)) (take_out order (entries m.tree) s) (remove_plain order s m.tree cut) in
      record { answers = cc; leaves = cc }
  served_plain (Find s) cut = record { answers = ap (λ o. Found (Ok o)) (find_plain order s m.tree cut); leaves = refl }
  served_plain (SeekFrom s) cut = record { answers = ap (λ o. Sought (Ok o)) (seek_plain order s false m.tree cut); leaves = refl }
  served_plain (SeekAfter s) cut = record { answers = ap (λ o. Sought (Ok o)) (seek_plain order s true m.tree cut); leaves = refl }

  seek_held : (after : Bool) (s : K) → Seeks (Sought (Ok (seek after order m.tree s))) (pairs m)
  seek_held after s = sought_held (seek after order m.tree s) (pairs m) (seek_all order s after (λ e. Contains (pairs m) (known e)) m.tree (all_held (entries m.tree)))

  served_moves : (c : Call K) → Moves c (served_step order m c).0 (pairs m) (pairs (served_step order m c).1)
  served_moves (Add s ticket) =
      add_all (λ r. Adds s ticket (Added r) (pairs m) (pairs (where_ok r (grown order m s ticket) (counted (path false order m.tree s) m))))
      (find order m.tree s) (size m.tree) m.room
      (λ none lt. more_map (entry s ticket) known (entries m.tree) (entries (grown order m s ticket).tree)
      (insert_one_more (λ i k v. entry k v) order s ticket (next_slot m.free m.fresh) m.tree none))
      (λ _. refl)
  served_moves (Take s) =
      take_all (λ r. Takes (Taken r) (pairs m) (pairs (where_ok r (shrunk order m s) (counted (path false order m.tree s) m)))) (find order m.tree s)
      (λ ticket e. let r = remove_entries order s m.tree ticket e in
      (Some r.0, more_map (entry r.0 ticket) known (entries (remove order m.tree s)) (entries m.tree) r.1))
      refl
  served_moves (Find s) = (
    found_held (find order m.tree s) (pairs m) (find_all order s (λ ticket. (key : Option K) × Contains (pairs m) (key, ticket)) m.tree
        (all_weaker (λ e. Contains (pairs m) (known e)) (λ e. (key : Option K) × Contains (pairs m) (key, e.ticket)) (λ e h. (Some e.key, h)) (entries m.tree) (all_held (entries m.tree)))),
    refl,
  )
  served_moves (SeekFrom s) = (seek_held false s, refl)
  served_moves (SeekAfter s) = (seek_held true s, refl)

  served_room : (c : Call K) → (served_step order m c).1.room ≡ m.room
  served_room (Add s ticket) = leaves_room m (path false order m.tree s) (grown order m s ticket) (add_answer (find order m.tree s) (size m.tree) m.room) refl
  served_room (Take s) = leaves_room m (path false order m.tree s) (shrunk order m s) (take_answer (find order m.tree s)) refl
  served_room (Find s) = refl
  served_room (SeekFrom s) = refl
  served_room (SeekAfter s) = refl

-- with the laws of the order in every family
pub model_means : {K I : Type 0} (order : K → K → Ordering) (family : I → K → Type 0) → ((i : I) → FamilyLaws order (family i)) → (m : TreeModel K) (c : Call K) →
    Meaning order family (map known (entries m.tree)) m.room c (tree_step order m c).0 (map known (entries (tree_step order m c).1.tree)) (tree_step order m c).1.room
model_means order family laws m c =
    cond_both (eqb m.room 0) (refused c NoSlots, counted 0 m) (served_step order m c) (λ r. Meaning order family (pairs m) m.room c r.0 (pairs r.1) r.1.room)
    (λ t. unserved_means order family (pairs m) m.room c (eqb-true _ _ t))
    (λ _. record {
      in_good_order = λ i es shown good kin.
          let same = known_same (entries m.tree) es shown in
          let cut = good_cut order family i (laws i) (call_key c) es kin good in
          inl (subst (λ es. AsThePlainBook order m.room es c (served_step order m c).0 (pairs (served_step order m c).1)) same
          (served_plain order m c (subst (Cut order (call_key c)) (sym same) cut)));
      in_any_order = served_moves order m c;
      room_stays = served_room order m c;
    })
