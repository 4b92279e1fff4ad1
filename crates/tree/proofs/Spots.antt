-- The slot for a new node: what is found of it, and that the tree can grow into it.
use Rattle.std.proofs.Common.{◌≡◌, ℕ, suc, ◌+◌, ◌<◌, ◌≤◌, true, false, ltb, leb, ◌⊎◌, List, [], ◌∷◌, ◌++◌, length, get_or, sym, refl, ap, ◌∙◌, subst, inl, inr, arith, Some, None}
use Rattle.std.specs.List.{AllByRecursion}
use Rattle.std.proofs.lemmas.Option.{slice_get-get_or, slice_get_within}
use Rattle.std.proofs.lemmas.Bool.{ltb-true, ltb-false, cond_both, cases_Bool}
use Rattle.digits.proofs.Every.{all_weaker, all_left, all_right}
use Rattle.books.specs.Meaning.{usable}
use Rattle.books.proofs.Usable.{usable_within}
use Rattle.avl.specs.Avl.{size, slots}
use Rattle.avl.specs.Model.{TreeModel, next_slot, free_after, fresh_after, Distinct}
use Rattle.avl.proofs.Height.{low_in_slots}
use Rattle.avl.proofs.Slots.{split, crossed}
use Rattle.avl.proofs.Soundness.{size_within}
use Rattle.tree.specs.Links.{Link}
use Rattle.tree.specs.declared.nodes.Node.{Node}
use Rattle.tree.specs.declared.states.State.{State}
use Rattle.tree.specs.declared.states.Spot.{Spot as SpotFound}
use Rattle.tree.specs.Standing.{Placed}
use Rattle.tree.specs.Changes.{Spot, Changing}
use Rattle.tree.specs.States.{Chain, StandsSoundly, NextSpot}

-- memory that serves at all serves all its slots
usable_all : (n : ℕ) → 0 < usable n → usable n ≡ n
usable_all n = cond_both (leb n 65535) n 0 (λ m. 0 < m → m ≡ n) (λ _ _. refl) (λ _ some. absurd (omega arith))

module _ {K : Type 0} (nodes : List (Node K)) (state : State) (m : TreeModel K) (s : StandsSoundly nodes state m) where
  -- the slot freed most recently is in the memory, since it was used
  pub freed_inside : (i : ℕ) → state.free ≡ Some i → i < length nodes
  freed_inside i is = by m.free s.free_stands
    where
      by : (free : List ℕ) → Chain nodes state.free free → i < length nodes
      by [] c = absurd cc
      by (j ∷ free) c = let at = c.0 in let here : j ≡ i = cc in subst (λ j. j < length nodes) here (slice_get_within nodes j c.1.0 c.1.1.0)

  pub next_freed : (i : ℕ) (d : Node K) → state.free ≡ Some i → NextSpot nodes m (record { slot = state.free; free = (get_or nodes i d).left; fresh = state.fresh })
  next_freed i d is = by m.free refl s.free_stands
    where
      by : (free : List ℕ) → m.free ≡ free → Chain nodes state.free free → NextSpot nodes m (record { slot = state.free; free = (get_or nodes i d).left; fresh = state.fresh })
      by [] e c = absurd cc
      by (j ∷ free) e c =
          let at = c.0 in
          let stood = c.1.1.0 in
          let here : i ≡ j = cc in
          let read = slice_get-get_or nodes i d (freed_inside i is) in
          let same : c.1.0 ≡ get_or nodes i d = cc in
          let more = ap length e in
          record {
            full = λ f. absurd (let le = ltb-false _ _ f in omega arith);
            slot = λ _. at ∙ ap (λ l. Some (next_slot l m.fresh)) (sym e);
            free = λ _. subst (λ l. Chain nodes (get_or nodes i d).left (free_after l)) (sym e) (subst (λ (q : Node K). Chain nodes q.left free) same c.1.1.2);
            fresh = λ _. s.fresh_is ∙ ap (λ l. fresh_after l m.fresh) (sym e);
          }

  -- with no slot free, those below `fresh` are all in use
  none_free : state.free ≡ None → m.free ≡ []
  none_free is = by m.free s.free_stands
    where
      by : (free : List ℕ) → Chain nodes state.free free → free ≡ []
      by [] c = refl
      by (j ∷ free) c = absurd (let at = c.0 in cc)

  -- the lowest slot never used
  pub next_unused : state.free ≡ None → 0 < usable (length nodes) → state.fresh < length nodes → NextSpot nodes m (record { slot = Some state.fresh; free = None; fresh = state.fresh + 1 })
  next_unused is some left =
      let none = none_free is in
      let all = usable_all (length nodes) some in
      let as_many : length m.free ≡ 0 = ap length none in
      let high = s.fresh_is in
      record {
        full = λ f. absurd (let le = ltb-false _ _ f in omega arith);
        slot = λ _. ap Some s.fresh_is ∙ ap (λ l. Some (next_slot l m.fresh)) (sym none);
        free = λ _. subst (λ l. Chain nodes None (free_after l)) (sym none) refl;
        fresh = λ _. (let e : state.fresh + 1 ≡ suc m.fresh = omega arith in e) ∙ ap (λ l. fresh_after l m.fresh) (sym none);
      }

  pub none_left : state.free ≡ None → 0 < usable (length nodes) → length nodes ≤ state.fresh → NextSpot nodes m (record { slot = None; free = None; fresh = state.fresh })
  none_left is some full =
      let none = none_free is in
      let all = usable_all (length nodes) some in
      let as_many : length m.free ≡ 0 = ap length none in
      let over : ltb (size m.tree) m.room ≡ true → ⊥ = λ e. (let lt = ltb-true _ _ e in omega arith) in
      record { full = λ _. refl; slot = λ e. absurd (over e); free = λ e. absurd (over e); fresh = λ e. absurd (over e) }

  -- the tree is balanced and has few nodes, so it is low
  pub tree_placed : (limit : ℕ) → 22 ≤ limit → Placed limit nodes state.root m.tree
  tree_placed limit high =
      let few = size_within m s.sound in
      let low = low_in_slots m.tree s.sound.balanced (omega arith) in
      record { stands = s.tree_stands; distinct = (split (slots m.tree) m.free s.sound.distinct).left; low = omega arith }

  changing : (slot : Link) → Spot nodes slot m.tree → Changing nodes state.root slot m.tree
  changing slot fits = record { placed = tree_placed 100 (omega arith); balanced = s.sound.balanced; spot = fits }

  pub can_shrink : Changing nodes state.root None m.tree
  can_shrink = changing None tt

  -- the next slot is in the memory, and not in the tree
  next_fits : ltb (size m.tree) m.room ≡ true → Spot nodes (Some (next_slot m.free m.fresh)) m.tree
  next_fits some = by m.free s.sound.distinct s.sound.below s.sound.all_used
    where
      by : (free : List ℕ) → Distinct (slots m.tree ++ free) → AllByRecursion (λ i. i < m.fresh) (slots m.tree ++ free) → size m.tree + length free ≡ m.fresh →
          Spot nodes (Some (next_slot free m.fresh)) m.tree
      by [] d below used =
          let within = usable_within (length nodes) in
          let lt = ltb-true _ _ some in
          (omega arith, all_weaker (λ i. i < m.fresh) (λ i. m.fresh ≡ i → ⊥) (λ i lt e. omega arith) (slots m.tree) (all_left (λ i. i < m.fresh) (slots m.tree) [] below))
      by (i ∷ free) d below used =
          let within = usable_within (length nodes) in
          let lt = (all_right (λ i. i < m.fresh) (slots m.tree) (i ∷ free) below).0 in
          (omega arith, (crossed (slots m.tree) (i ∷ free) (split (slots m.tree) (i ∷ free) d).left_right).0)

  pub can_grow : (spot : SpotFound) → NextSpot nodes m spot → Changing nodes state.root spot.slot m.tree
  can_grow spot next = changing spot.slot (by (cases_Bool (ltb (size m.tree) m.room)))
    where
      by : ((ltb (size m.tree) m.room ≡ true) ⊎ (ltb (size m.tree) m.room ≡ false)) → Spot nodes spot.slot m.tree
      by (inl some) = subst (λ slot. Spot nodes slot m.tree) (sym (next.slot some)) (next_fits some)
      by (inr full) = subst (λ slot. Spot nodes slot m.tree) (sym (next.full full)) tt
