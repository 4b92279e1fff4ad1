-- What the nodes show of the tree and of the free slots. A slot below `fresh` is in the tree or free, and its height tells which.
use Rattle.std.proofs.Common.{◌≡◌, ℕ, zero, suc, ◌<◌, ◌≤◌, max, ◌⊎◌, List, [], ◌∷◌, ◌++◌, length, take, Some, None, sym, refl, ap, ◌∙◌, inl, inr, arith}
use Rattle.std.specs.List.{slice_get, Contains}
use Rattle.std.specs.Option.{option_or}
use Rattle.std.proofs.lemmas.Bool.{cond-true, cond-false, eq-eqb, ne_eqb, cases_eq}
use Rattle.digits.proofs.Every.{all_append, all_contains, all_weaker, all_left, all_right}
use Rattle.books.proofs.Usable.{usable_within}
use Rattle.avl.specs.Avl.{Avl, tip, fork, height, slots}
use Rattle.avl.specs.Model.{TreeModel, Apart}
use Rattle.avl.proofs.Soundness.{one_place}
use Rattle.tree.specs.Links.{Link}
use Rattle.tree.specs.declared.nodes.Node.{Node}
use Rattle.tree.specs.declared.shapes.Shape.{Shape}
use Rattle.tree.specs.declared.states.State.{State}
use Rattle.tree.specs.Standing.{node_of, Lies}
use Rattle.tree.specs.Shapes.{shape_of, shape_at, first_of, next_of}
use Rattle.tree.specs.States.{Chain, StandsSoundly}

-- what a link shows is the first free slot
pub chain_shows : {K : Type 0} (nodes : List (Node K)) (at : Link) (free : List ℕ) → Chain nodes at free → at ≡ first_of free
chain_shows nodes at [] c = c
chain_shows nodes at (i ∷ free) c = c.0

-- what a node shows
abbrev pub shown : {K : Type 0} → Node K → Shape
shown n = record { left = n.left; right = n.right; height = n.height; ticket = n.entry.ticket }

node_shown : {K : Type 0} (k : K) (v : ℕ) (a b : Avl K) → shown (node_of k v a b) ≡ shape_of v a b
node_shown k v a b = refl

-- a slot that is not in a tree shows nothing of it
apart_shape : {K : Type 0} (j : ℕ) (t : Avl K) → Apart j (slots t) → shape_at t j ≡ None
apart_shape j tip p = refl
apart_shape j (fork i k v a b) p =
    let right = all_right (λ i. j ≡ i → ⊥) (slots a) (i ∷ slots b) p in
    cond-false _ _ _ (ne_eqb j i right.0) ∙ (ap (λ o. option_or o (shape_at b j)) (apart_shape j a (all_left (λ i. j ≡ i → ⊥) (slots a) (i ∷ slots b) p)) ∙ apart_shape j b right.1)

apart_next : (j : ℕ) (free : List ℕ) → Apart j free → next_of free j ≡ None
apart_next j [] p = refl
apart_next j (i ∷ free) p = cond-false _ _ _ (ne_eqb j i p.0) ∙ apart_next j free p.1

module _ {K : Type 0} (nodes : List (Node K)) (j : ℕ) (n : Node K) (read : slice_get nodes j ≡ Some n) where
  -- a slot of the tree shows its node
  tree_shows : (t : Avl K) → Lies nodes t → (shape_at t j ≡ Some (shown n)) ⊎ Apart j (slots t)
  tree_shows tip h = inr tt
  tree_shows (fork i k v a b) h = by (cases_eq j i) (tree_shows a h.1) (tree_shows b h.2)
    where
      by : ((j ≡ i) ⊎ (j ≡ i → ⊥)) → ((shape_at a j ≡ Some (shown n)) ⊎ Apart j (slots a)) → ((shape_at b j ≡ Some (shown n)) ⊎ Apart j (slots b)) →
          (shape_at (fork i k v a b) j ≡ Some (shown n)) ⊎ Apart j (slots (fork i k v a b))
      by (inl e) left right =
          let here = h.0 in
          let same : node_of k v a b ≡ n = cc in
          inl (cond-true _ _ _ (eq-eqb j i e) ∙ ap Some (sym (node_shown k v a b) ∙ ap shown same))
      by (inr ne) (inl e) right = inl (cond-false _ _ _ (ne_eqb j i ne) ∙ ap (λ o. option_or o (shape_at b j)) e)
      by (inr ne) (inr p) (inl e) = inl (cond-false _ _ _ (ne_eqb j i ne) ∙ (ap (λ o. option_or o (shape_at b j)) (apart_shape j a p) ∙ e))
      by (inr ne) (inr p) (inr q) = inr (all_append (λ i. j ≡ i → ⊥) (slots a) (i ∷ slots b) p (ne, q))

  -- a free slot shows the one freed before it
  free_shows : (free : List ℕ) (at : Link) → Chain nodes at free → (next_of free j ≡ n.left) ⊎ Apart j free
  free_shows [] at c = inr tt
  free_shows (i ∷ free) at c = by (cases_eq j i) (free_shows free c.1.0.left c.1.1.2)
    where
      by : ((j ≡ i) ⊎ (j ≡ i → ⊥)) → ((next_of free j ≡ n.left) ⊎ Apart j free) → (next_of (i ∷ free) j ≡ n.left) ⊎ Apart j (i ∷ free)
      by (inl e) rest =
          let here = c.1.1.0 in
          let same : c.1.0 ≡ n = cc in
          inl (cond-true _ _ _ (eq-eqb j i e) ∙ (sym (chain_shows nodes c.1.0.left free c.1.1.2) ∙ ap (λ (q : Node K). q.left) same))
      by (inr ne) (inl e) = inl (cond-false _ _ _ (ne_eqb j i ne) ∙ e)
      by (inr ne) (inr p) = inr (ne, p)

  -- a node of height 0 is not in the tree
  low_apart : n.height ≡ 0 → (t : Avl K) → Lies nodes t → Apart j (slots t)
  low_apart low tip h = tt
  low_apart low (fork i k v a b) h =
      all_append (λ i. j ≡ i → ⊥) (slots a) (i ∷ slots b) (low_apart low a h.1)
      (λ e. (let here = h.0 in let high : n.height ≡ suc (max (height a) (height b)) = cc in omega arith), low_apart low b h.2)

  -- and one of another height is not free
  high_apart : (n.height ≡ 0 → ⊥) → (free : List ℕ) (at : Link) → Chain nodes at free → Apart j free
  high_apart high [] at c = tt
  high_apart high (i ∷ free) at c =
      (λ e. high (let here = c.1.1.0 in let low = c.1.1.1 in cc), high_apart high free c.1.0.left c.1.1.2)

-- the slots that were ever used are in the memory
pub used_within : {K : Type 0} (nodes : List (Node K)) (state : State) (m : TreeModel K) → StandsSoundly nodes state m → state.fresh ≤ length nodes
used_within nodes state m s = let within = usable_within (length nodes) in omega (arith, s.room_is, s.fresh_is, s.sound.within)

-- an element of the first n of a list is one of the list
taken : {X : Type 0} (n j : ℕ) (xs : List X) (x : X) → slice_get (take n xs) j ≡ Some x → (j < n) × (slice_get xs j ≡ Some x)
taken zero j xs x e = absurd cc
taken (suc n) j [] x e = absurd cc
taken (suc n) zero (y ∷ xs) x e = (omega arith, e)
taken (suc n) (suc j) (y ∷ xs) x e = let h = taken n j xs x e in (omega (arith, h.0), h.1)

not_taken : {X : Type 0} (n j : ℕ) (xs : List X) → n ≤ length xs → slice_get (take n xs) j ≡ None → n ≤ j
not_taken zero j xs le e = omega arith
not_taken (suc n) j [] le e = absurd (omega arith)
not_taken (suc n) zero (y ∷ xs) le e = absurd cc
not_taken (suc n) (suc j) (y ∷ xs) le e = let h = not_taken n j xs (omega arith) e in omega arith

module _ {K : Type 0} {nodes : List (Node K)} {state : State} {m : TreeModel K} (s : StandsSoundly nodes state m) (j : ℕ) where
  -- a slot from `fresh` on is neither in the tree nor free
  never_used : m.fresh ≤ j → Apart j (slots m.tree ++ m.free)
  never_used le = all_weaker (λ i. i < m.fresh) (λ i. j ≡ i → ⊥) (λ i lt e. omega arith) (slots m.tree ++ m.free) s.sound.below

  never_taken : slice_get (take state.fresh nodes) j ≡ None → state.fresh ≤ j
  never_taken = not_taken state.fresh j nodes (used_within nodes state m s)

  pub unused_shape : slice_get (take state.fresh nodes) j ≡ None → None ≡ shape_at m.tree j
  unused_shape unused = sym (apart_shape j m.tree (all_left (λ i. j ≡ i → ⊥) (slots m.tree) m.free (never_used (omega (arith, s.fresh_is, never_taken unused)))))

  pub unused_next : slice_get (take state.fresh nodes) j ≡ None → None ≡ next_of m.free j
  unused_next unused = sym (apart_next j m.free (all_right (λ i. j ≡ i → ⊥) (slots m.tree) m.free (never_used (omega (arith, s.fresh_is, never_taken unused)))))

  -- a slot that was used, and its node
  module _ {n : Node K} (used : slice_get (take state.fresh nodes) j ≡ Some n) where
    stood : slice_get nodes j ≡ Some n
    stood = (taken state.fresh j nodes n used).1

    -- it is in the tree or free
    in_some_place : Apart j (slots m.tree) → Apart j m.free → ⊥
    in_some_place p q = by (one_place m s.sound j).some_place
      where
        by : (Contains (slots m.tree) j ⊎ (Contains m.free j ⊎ (m.fresh ≤ j))) → ⊥
        by (inl held) = all_contains (λ i. j ≡ i → ⊥) (slots m.tree) j p held refl
        by (inr (inl free)) = all_contains (λ i. j ≡ i → ⊥) m.free j q free refl
        by (inr (inr unused)) = let lt = (taken state.fresh j nodes n used).0 in let e = s.fresh_is in omega arith

    module _ (low : n.height ≡ 0) where
      off_tree : Apart j (slots m.tree)
      off_tree = low_apart nodes j n stood low m.tree s.tree_stands.lies

      pub free_shape : None ≡ shape_at m.tree j
      free_shape = sym (apart_shape j m.tree off_tree)

      pub free_next : n.left ≡ next_of m.free j
      free_next = by (free_shows nodes j n stood m.free state.free s.free_stands)
        where
          by : ((next_of m.free j ≡ n.left) ⊎ Apart j m.free) → n.left ≡ next_of m.free j
          by (inl e) = sym e
          by (inr p) = absurd (in_some_place off_tree p)

    module _ (high : n.height ≡ 0 → ⊥) where
      not_free : Apart j m.free
      not_free = high_apart nodes j n stood high m.free state.free s.free_stands

      pub held_next : None ≡ next_of m.free j
      held_next = sym (apart_next j m.free not_free)

      pub held_shape : Some (shown n) ≡ shape_at m.tree j
      held_shape = by (tree_shows nodes j n stood m.tree s.tree_stands.lies)
        where
          by : ((shape_at m.tree j ≡ Some (shown n)) ⊎ Apart j (slots m.tree)) → Some (shown n) ≡ shape_at m.tree j
          by (inl e) = sym e
          by (inr p) = absurd (in_some_place p not_free)
