-- Every call keeps a tree sound, and in a sound tree each slot is in one place.
use Rattle.std.proofs.Common.{◌≡◌, ℕ, suc, ◌+◌, ◌<◌, ◌≤◌, true, false, eqb, ◌⊎◌, List, [], ◌∷◌, ◌++◌, length, Some, None, Ordering, sym, refl, subst, inl, inr, arith, length-append}
use Rattle.std.proofs.lemmas.Bool.{cases_lt, cond_both}
use Rattle.std.specs.List.{AllByRecursion, Contains}
use Rattle.books.specs.Calls.{Call, Add, Take, Find, SeekFrom, SeekAfter, refused}
use Rattle.books.specs.Plain.{where_ok}
use Rattle.books.specs.Meaning.{OneMore}
use Rattle.digits.proofs.Every.{all_left, all_right, all_append, all_weaker, all_contains}
use Rattle.books.proofs.Cuts.{more_here, more_left, more_has, all_with, all_without}
use Rattle.books.proofs.Answering.{add_all, take_all}
use Rattle.avl.specs.Avl.{Avl, size, slots, insert, remove, freed, find, path}
use Rattle.avl.specs.Model.{TreeModel, next_slot, free_after, fresh_after, freed_first, counted, grown, shrunk, served_step, tree_step, new_tree, Apart, Distinct, Sound}
use Rattle.avl.specs.Laws.{OnePlace, StaysSound}
use Rattle.avl.proofs.Balance.{insert_balanced, remove_balanced}
use Rattle.avl.proofs.Inorder.{size_slots, remove_slots}
use Rattle.avl.proofs.Slots.{distinct_more, distinct_less, split, insert_slots, insert_size, remove_size, freed_some, held_or_apart, none_apart}
use Rattle.keys.specs.declared.refusals.Refusal.TheVariants.{NoSlots}

-- distinct slots, all used before
record LinedUp (fresh : ℕ) (l : List ℕ) : Type 0 where
  distinct : Distinct l
  below : AllByRecursion (λ i. i < fresh) l

-- a slot goes from one place to another, as from the tree to the free ones
moved : (j fresh : ℕ) (rest from into : List ℕ) → OneMore j rest from → OneMore j rest into → LinedUp fresh from → LinedUp fresh into
moved j fresh rest from into m n l =
    let r = distinct_less j rest from m l.distinct in
    record {
      distinct = distinct_more j rest into n r.0 r.1;
      below = all_with j rest into n (λ i. i < fresh) (all_contains (λ i. i < fresh) from j l.below (more_has j rest from m)) (all_without j rest from m (λ i. i < fresh) l.below);
    }

-- the lowest slot never used comes in
risen : (fresh : ℕ) (l more : List ℕ) → OneMore fresh l more → LinedUp fresh l → LinedUp (suc fresh) more
risen fresh l more m p = record {
  distinct = distinct_more fresh l more m (all_weaker (λ i. i < fresh) (λ i. fresh ≡ i → ⊥) (λ i h e. omega arith) l p.below) p.distinct;
  below = all_with fresh l more m (λ i. i < suc fresh) (omega arith) (all_weaker (λ i. i < fresh) (λ i. i < suc fresh) (λ i h. omega arith) l p.below);
}

counted_sound : {K : Type 0} (n : ℕ) (m : TreeModel K) → Sound m → Sound (counted n m)
counted_sound n m s = record { balanced = s.balanced; distinct = s.distinct; below = s.below; all_used = s.all_used; within = s.within; few = s.few }

-- one more slot is in use: with none free that is one never used before, and there is one since there are fewer pairs than slots
grown_count : (free : List ℕ) (size fresh room : ℕ) → size + length free ≡ fresh → fresh ≤ room → size < room →
    (suc size + length (free_after free) ≡ fresh_after free fresh) × (fresh_after free fresh ≤ room)
grown_count [] size fresh room e le lt = (omega arith, omega arith)
grown_count (i ∷ free) size fresh room e le lt = (omega arith, le)

module _ {K : Type 0} (order : K → K → Ordering) where
  -- an add takes a free slot, else the next never used
  grown_slots : (t : Avl K) (k : K) (v : ℕ) (free : List ℕ) (fresh : ℕ) → find order t k ≡ None → LinedUp fresh (slots t ++ free) →
      LinedUp (fresh_after free fresh) (slots (insert order t k v (next_slot free fresh)) ++ free_after free)
  grown_slots t k v [] fresh n l =
      risen fresh (slots t ++ []) (slots (insert order t k v fresh) ++ []) (more_left fresh (slots t) (slots (insert order t k v fresh)) [] (insert_slots order k v fresh t n)) l
  grown_slots t k v (i ∷ free) fresh n l =
      moved i fresh (slots t ++ free) (slots t ++ (i ∷ free)) (slots (insert order t k v i) ++ free) (more_here i (slots t) free)
      (more_left i (slots t) (slots (insert order t k v i)) free (insert_slots order k v i t n)) l

  grown_sound : (m : TreeModel K) (k : K) (v : ℕ) → Sound m → find order m.tree k ≡ None → size m.tree < m.room → Sound (grown order m k v)
  grown_sound m k v s n lt =
      let l = grown_slots m.tree k v m.free m.fresh n (record { distinct = s.distinct; below = s.below }) in
      let c = grown_count m.free (size m.tree) m.fresh m.room s.all_used s.within lt in
      let i = insert_size order k v (next_slot m.free m.fresh) m.tree n in
      record {
        balanced = (insert_balanced order m.tree k v (next_slot m.free m.fresh) s.balanced).balanced;
        distinct = l.distinct;
        below = l.below;
        all_used = subst (λ n. n + length (free_after m.free) ≡ fresh_after m.free m.fresh) (sym i) c.0;
        within = c.1;
        few = s.few;
      }

  shrunk_sound : (m : TreeModel K) (k : K) (ticket : ℕ) → Sound m → find order m.tree k ≡ Some ticket → Sound (shrunk order m k)
  shrunk_sound m k ticket s e =
      let f = freed_some order k m.tree ticket e in
      let rest = slots (remove order m.tree k) in
      let out = remove_slots order k m.tree f.0 f.1 in
      let l = moved f.0 m.fresh (rest ++ m.free) (slots m.tree ++ m.free) (rest ++ (f.0 ∷ m.free))
      (more_left f.0 rest (slots m.tree) m.free out) (more_here f.0 rest m.free) (record { distinct = s.distinct; below = s.below }) in
      let r = remove_size order k f.0 m.tree f.1 in
      let u = s.all_used in
      let free_is : f.0 ∷ m.free ≡ freed_first (freed order m.tree k) m.free = cc in
      record {
        balanced = (remove_balanced order m.tree k s.balanced).balanced;
        distinct = subst (λ free. Distinct (rest ++ free)) free_is l.distinct;
        below = subst (λ free. AllByRecursion (λ i. i < m.fresh) (rest ++ free)) free_is l.below;
        all_used = subst (λ free. size (remove order m.tree k) + length free ≡ m.fresh) free_is (omega arith);
        within = s.within;
        few = s.few;
      }

  served_kept : (m : TreeModel K) (c : Call K) → Sound m → Sound (served_step order m c).1
  served_kept m (Add k v) s =
      add_all (λ r. Sound (where_ok r (grown order m k v) (counted (path false order m.tree k) m))) (find order m.tree k) (size m.tree) m.room
      (λ none lt. grown_sound m k v s none lt) (λ _. counted_sound (path false order m.tree k) m s)
  served_kept m (Take k) s =
      take_all (λ r. Sound (where_ok r (shrunk order m k) (counted (path false order m.tree k) m))) (find order m.tree k)
      (λ ticket e. shrunk_sound m k ticket s e) (counted_sound (path false order m.tree k) m s)
  served_kept m (Find k) s = counted_sound (path false order m.tree k) m s
  served_kept m (SeekFrom k) s = counted_sound (path false order m.tree k) m s
  served_kept m (SeekAfter k) s = counted_sound (path true order m.tree k) m s

  pub model_kept : (m : TreeModel K) (c : Call K) → Sound m → Sound (tree_step order m c).1
  model_kept m c s =
      cond_both (eqb m.room 0) (refused c NoSlots, counted 0 m) (served_step order m c) (λ r. Sound r.1) (λ _. counted_sound 0 m s) (λ _. served_kept m c s)

pub new_sound : {K : Type 0} (room : ℕ) → room ≤ 65535 → Sound {K = K} (new_tree room)
new_sound room le = record { balanced = tt; distinct = tt; below = tt; all_used = refl; within = omega arith; few = le }

-- there are no more pairs than slots
pub size_within : {K : Type 0} (m : TreeModel K) → Sound m → size m.tree ≤ m.room
size_within m s = let u = s.all_used in let w = s.within in omega arith

pub one_place : {K : Type 0} (m : TreeModel K) → Sound m → (j : ℕ) → OnePlace m j
one_place m s j = record {
  some_place = by (held_or_apart j (slots m.tree)) (held_or_apart j m.free) (cases_lt j m.fresh);
  not_held_and_free = λ held free. all_contains (λ i. j ≡ i → ⊥) m.free j (all_contains (λ i. Apart i m.free) (slots m.tree) j (split (slots m.tree) m.free s.distinct).left_right held) free refl;
  held_was_used = λ held. all_contains (λ i. i < m.fresh) (slots m.tree) j (all_left (λ i. i < m.fresh) (slots m.tree) m.free s.below) held;
  free_was_used = λ free. all_contains (λ i. i < m.fresh) m.free j (all_right (λ i. i < m.fresh) (slots m.tree) m.free s.below) free;
}
  where
    -- the slots in use and the free ones are as many as the slots below `fresh`
    count : length (slots m.tree ++ m.free) ≡ m.fresh
    count = let a = length-append (slots m.tree) m.free in let b = size_slots m.tree in let c = s.all_used in omega arith

    by : (((fewer : List ℕ) × OneMore j fewer (slots m.tree)) ⊎ Apart j (slots m.tree)) → (((fewer : List ℕ) × OneMore j fewer m.free) ⊎ Apart j m.free) → ((j < m.fresh) ⊎ (m.fresh ≤ j)) →
        Contains (slots m.tree) j ⊎ (Contains m.free j ⊎ (m.fresh ≤ j))
    by (inl h) free known = inl (more_has j h.0 (slots m.tree) h.1)
    by (inr p) (inl h) known = inr (inl (more_has j h.0 m.free h.1))
    by (inr p) (inr q) (inr le) = inr (inr le)
    by (inr p) (inr q) (inl lt) =
        absurd (none_apart (slots m.tree ++ m.free) s.distinct (subst (λ n. AllByRecursion (λ i. i < n) (slots m.tree ++ m.free)) (sym count) s.below) j
        (let c = count in omega arith) (all_append (λ i. j ≡ i → ⊥) (slots m.tree) m.free p q))

pub stays_sound : (K : Type 0) → StaysSound K
stays_sound K = record { at_first = new_sound; kept = model_kept; placed = one_place }
