-- The test that a tree carries as its invariant, and what it says, both ways.
use Rattle.std.proofs.Common.{◌≡◌, ℕ, zero, suc, ◌<◌, ◌≤◌, max, Bool, true, not, ◌&&◌, eqb, ltb, leb, List, [], ◌∷◌, length, Some, None, Decides, Option, sym, refl, ap, ◌∙◌, subst, arith}
use Rattle.std.specs.List.{slice_get, AllByRecursion}
use Rattle.std.proofs.lemmas.Bool.{and_parts, and_from, eqb-true, eq-eqb, leb-true, le-leb}
use Rattle.std.proofs.lemmas.Bool.Decides.{Decides-eqb, Decides-ltb, Decides-not, Decides-and, Decides-like, Decides-by_and}
use Rattle.std.proofs.lemmas.List.Elements.{All-from_recursion, recursion_from_All}
use Rattle.books.specs.Meaning.{usable}
use Rattle.books.proofs.Usable.{usable_within, usable_few}
use Rattle.avl.specs.Avl.{Avl, tip, fork, height, size, Balanced}
use Rattle.avl.specs.Model.{TreeModel, Apart, Distinct, Sound, new_tree}
use Rattle.avl.proofs.Height.{low_in_slots}
use Rattle.avl.proofs.Soundness.{size_within, new_sound}
use Rattle.tree.specs.Links.{Link}
use Rattle.tree.specs.declared.nodes.Node.{Node}
use Rattle.tree.specs.declared.states.State.{State}
use Rattle.tree.specs.Standing.{link_of, node_of, Lies}
use Rattle.tree.specs.States.{read_node, read_tree, tree_at, model_of, Chain, StandsSoundly, counted_state, same_link, tells, lies, is_free, chained, balanced, apart, distinct, all_below, model_sound, sound_in, Means}
use Rattle.tree.proofs.Reading.{reads_tree, reads_free}

-- each part of the test

decides_leb : (a b : ℕ) → Decides (leb a b) (a ≤ b)
decides_leb a b = (leb-true a b, le-leb a b)

-- each element of a list passes a test that decides a fact of it
decides_each : {X : Type 0} (p : X → Bool) (P : X → Type 0) (f : List X → Bool) → ((x : X) → Decides (p x) (P x)) → f [] ≡ true → ((x : X) (xs : List X) → f (x ∷ xs) ≡ (p x && f xs)) →
    (xs : List X) → Decides (f xs) (AllByRecursion P xs)
decides_each p P f each none more xs = let all = Decides-by_and p P f each none more xs in (λ e. recursion_from_All P xs (all.0 e), λ h. all.1 (All-from_recursion P xs h))

decides_apart : (j : ℕ) (l : List ℕ) → Decides (apart j l) (Apart j l)
decides_apart j = decides_each (λ i. not (eqb j i)) (λ i. j ≡ i → ⊥) (apart j) (λ i. Decides-not (eqb j i) (Decides-eqb j i)) refl (λ _ _. refl)

decides_distinct : (l : List ℕ) → Decides (distinct l) (Distinct l)
decides_distinct [] = (λ _. tt, λ _. refl)
decides_distinct (i ∷ l) = Decides-and (apart i l) (distinct l) (decides_apart i l) (decides_distinct l)

decides_below : (n : ℕ) (l : List ℕ) → Decides (all_below n l) (AllByRecursion (λ i. i < n) l)
decides_below n = decides_each (λ i. ltb i n) (λ i. i < n) (all_below n) (λ i. Decides-ltb i n) refl (λ _ _. refl)

decides_link : (a b : Link) → Decides (same_link a b) (a ≡ b)
decides_link None None = (λ _. refl, λ _. refl)
decides_link None (Some j) = (λ e. absurd cc, λ e. absurd cc)
decides_link (Some i) None = (λ e. absurd cc, λ e. absurd cc)
decides_link (Some i) (Some j) = (λ e. ap Some (eqb-true i j e), λ e. eq-eqb i j (cc))

module _ {K : Type 0} where
  decides_balanced : (t : Avl K) → Decides (balanced t) (Balanced t)
  decides_balanced tip = (λ _. tt, λ _. refl)
  decides_balanced (fork i k v a b) =
      Decides-like (balanced (fork i k v a b)) (λ p. (p.0, p.1.0, p.1.1.0, p.1.1.1)) (λ p. (p.0, (p.1, (p.2, p.3))))
      (Decides-and _ _ (decides_leb _ _) (Decides-and _ _ (decides_leb _ _) (Decides-and _ _ (decides_balanced a) (decides_balanced b))))

  -- all of `Sound` but that there are few slots
  decides_sound : (m : TreeModel K) → m.room ≤ 65535 → Decides (model_sound m) (Sound m)
  decides_sound m few =
      Decides-like (model_sound m)
      (λ p. record { balanced = p.0; distinct = p.1.0; below = p.1.1.0; all_used = p.1.1.1.0; within = p.1.1.1.1; few = few })
      (λ (s : Sound m). (s.balanced, (s.distinct, (s.below, (s.all_used, s.within)))))
      (Decides-and _ _ (decides_balanced m.tree) (Decides-and _ _ (decides_distinct _) (Decides-and _ _ (decides_below _ _) (Decides-and _ _ (Decides-eqb _ _) (decides_leb _ _)))))

  -- a free node, and what stands from its left link on
  module _ (nodes : List (Node K)) where
    decides_free : (free : List ℕ) → ((at : Link) → Decides (chained nodes free at) (Chain nodes at free)) → (o : Option (Node K)) →
        Decides (is_free o (chained nodes free)) ((n : Node K) × ((o ≡ Some n) × (n.height ≡ 0) × Chain nodes n.left free))
    decides_free free on None = (λ e. absurd cc, λ p. absurd (let e = p.1.0 in cc))
    decides_free free on (Some n) =
        Decides-like (is_free (Some n) (chained nodes free)) (λ p. (n, (refl, p.0, p.1)))
        (λ p. let e = p.1.0 in let same : p.0 ≡ n = cc in (ap (λ (q : Node K). q.height) (sym same) ∙ p.1.1, subst (λ (q : Node K). Chain nodes q.left free) same p.1.2))
        (Decides-and _ _ (Decides-eqb n.height 0) (on n.left))

    decides_chained : (free : List ℕ) (at : Link) → Decides (chained nodes free at) (Chain nodes at free)
    decides_chained [] at = decides_link at None
    decides_chained (i ∷ free) at = Decides-and _ _ (decides_link at (Some i)) (decides_free free (decides_chained free) (slice_get nodes i))

    -- a tree that was read has the keys and tickets of its nodes, so links and heights are all there is to test
    tells_node : (n : Node K) (a b : Avl K) → tells (Some n) a b ≡ true → n ≡ node_of n.entry.key n.entry.ticket a b
    tells_node n a b e =
        let p = and_parts _ _ e in
        let q = and_parts _ _ p.1 in
        let left : n.left ≡ link_of a = (decides_link _ _).0 p.0 in
        let right : n.right ≡ link_of b = (decides_link _ _).0 q.0 in
        let high : n.height ≡ suc (max (height a) (height b)) = eqb-true _ _ q.1 in
        λ i. record { entry = n.entry; left = left i; right = right i; height = high i }

    node_lies : (i : ℕ) (side : Link → Avl K) → ((at : Link) → lies nodes (side at) ≡ true → Lies nodes (side at)) → (o : Option (Node K)) → slice_get nodes i ≡ o →
        lies nodes (read_node i o side) ≡ true → Lies nodes (read_node i o side)
    node_lies i side below None is e = tt
    node_lies i side below (Some n) is e =
        let p = and_parts _ _ e in
        let q = and_parts _ _ p.1 in
        let told : tells (Some n) (side n.left) (side n.right) ≡ true = subst (λ o. tells o (side n.left) (side n.right) ≡ true) is p.0 in
        (is ∙ ap Some (tells_node n (side n.left) (side n.right) told), below n.left q.0, below n.right q.1)

    read_lies : (depth : ℕ) (at : Link) → lies nodes (read_tree depth nodes at) ≡ true → Lies nodes (read_tree depth nodes at)
    unfolding read_tree
    read_lies zero at e = tt
    read_lies (suc depth) None e = tt
    read_lies (suc depth) (Some i) e = node_lies i (read_tree depth nodes) (λ at h. read_lies depth at h) (slice_get nodes i) refl e

    tree_lies : (at : Link) → lies nodes (tree_at nodes at) ≡ true → Lies nodes (tree_at nodes at)
    unfolding tree_at
    tree_lies at e = read_lies 100 at e

    lies_tested : (t : Avl K) → Lies nodes t → lies nodes t ≡ true
    lies_tested tip h = refl
    lies_tested (fork i k v a b) h =
        and_from _ _ (ap (λ o. tells o a b) h.0 ∙ and_from _ _ ((decides_link (link_of a) (link_of a)).1 refl) (and_from _ _ ((decides_link (link_of b) (link_of b)).1 refl) (eq-eqb (height (fork i k v a b)) (height (fork i k v a b)) refl)))
        (and_from _ _ (lies_tested a h.1) (lies_tested b h.2))

    pub stands_from_test : (state : State) → sound_in nodes state ≡ true → StandsSoundly nodes state (model_of nodes state)
    unfolding sound_in
    stands_from_test state e =
        let p = and_parts _ _ e in
        let q = and_parts _ _ p.1 in
        let r = and_parts _ _ q.1 in
        let u = and_parts _ _ r.1 in
        record {
          tree_stands = record { lies = tree_lies state.root p.0; linked = (decides_link _ _).0 q.0 };
          free_stands = (decides_chained _ _).0 r.0;
          fresh_is = refl;
          room_is = refl;
          comparisons_is = refl;
          held_is = eqb-true _ _ u.0;
          sound = (decides_sound (model_of nodes state) (usable_few (length nodes))).0 u.1;
        }

    -- the count of comparisons is tested for nothing
    pub sound_counted : (state : State) (n : ℕ) → sound_in nodes state ≡ true → sound_in nodes (counted_state state n) ≡ true
    unfolding sound_in
    sound_counted state n e = e

    model_read : (state : State) (m : TreeModel K) → StandsSoundly nodes state m → model_of nodes state ≡ m
    model_read state m s =
        let sound = s.sound in
        let few = size_within m sound in
        let low = low_in_slots m.tree sound.balanced (omega arith) in
        let within = usable_within (length nodes) in
        let tree = reads_tree nodes state.root m.tree s.tree_stands (omega arith) in
        let free = reads_free nodes state.free m.free s.free_stands (omega arith) in
        λ i. record { tree = tree i; free = free i; fresh = s.fresh_is i; room = s.room_is i; comparisons = s.comparisons_is i }

    -- the test, of a model that is read from memory or stands there
    abbrev tested : State → TreeModel K → Bool
    tested state m = lies nodes m.tree && (same_link state.root (link_of m.tree) && (chained nodes m.free state.free && (eqb state.held (size m.tree) && model_sound m)))

    pub means_from_stands : (state : State) (m : TreeModel K) → StandsSoundly nodes state m → Means nodes state m
    unfolding sound_in
    means_from_stands state m s =
        let same = model_read state m s in
        record {
          sound = subst (λ m. tested state m ≡ true) (sym same)
              (and_from _ _ (lies_tested m.tree s.tree_stands.lies) (and_from _ _ ((decides_link _ _).1 s.tree_stands.linked) (and_from _ _ ((decides_chained m.free state.free).1 s.free_stands)
              (and_from _ _ (eq-eqb _ _ s.held_is) ((decides_sound m s.sound.few).1 s.sound)))));
          model = same;
        }

    -- in any memory a new tree stands, with every slot unused
    pub new_means : Means nodes (record { root = None; free = None; fresh = 0; held = 0; comparisons = 0 }) (new_tree (usable (length nodes)))
    new_means = means_from_stands _ _ (record {
      tree_stands = record { lies = tt; linked = refl };
      free_stands = refl;
      fresh_is = refl;
      room_is = refl;
      comparisons_is = refl;
      held_is = refl;
      sound = new_sound (usable (length nodes)) (usable_few (length nodes));
    })
