-- An insertion: what each step asks, and what it leaves.
use Rattle.std.proofs.Common.{◌≡◌, ℕ, suc, ◌+◌, ◌<◌, ◌≤◌, false, List, ◌∷◌, ◌++◌, length, get_or, Some, None, Ok, Err, Option, Result, Ordering, sym, refl, ap, ◌∙◌, subst, arith}
use Rattle.keys.specs.declared.refusals.Refusal.{Refusal}
use Rattle.keys.specs.declared.refusals.Refusal.TheVariants.{KeyHeld}
use Rattle.books.specs.Meaning.{OneMore}
use Rattle.books.proofs.Cuts.{all_with}
use Rattle.avl.specs.Avl.{Avl, fork, height, slots, balance, insert, find, path}
use Rattle.avl.specs.Model.{Apart}
use Rattle.avl.proofs.Balance.{insert_balanced}
use Rattle.avl.proofs.Height.{path_low}
use Rattle.avl.proofs.Slots.{distinct_more, insert_slots}
use Rattle.tree.specs.Links.{Link}
use Rattle.tree.specs.declared.counted.Counted.{Counted}
use Rattle.tree.specs.declared.nodes.Node.{Node}
use Rattle.tree.specs.declared.nodes.Side.{Side}
use Rattle.tree.specs.Changes.{Spot, Changing, Changeable, GrownBy, Inserted, Inserts, Siding}
use Rattle.tree.specs.Shaping.{Joining, Joinable, Joins}
use Rattle.tree.specs.Sides.{side_of, on, link_on, with_link}
use Rattle.tree.specs.Standing.{height_at, Reshaped}
use Rattle.tree.proofs.Descending.{picks}
use Rattle.tree.proofs.Rotations.{both_steps}
use Rattle.tree.proofs.Siding.{by_side, same_key, opened_sides, apart_on, apart_far, crossed_more, more_on, off_other, side_changing, rejoins}
use Rattle.tree.proofs.Standing.{Opened, reads, side_lower}

-- the way down from t goes into its side a, and with that side grown `over` makes the whole tree again
record GoesInto {K : Type 0} (order : K → K → Ordering) (k : K) (t a : Avl K) (over : Avl K → Avl K) : Type 0 where
  path_is : path false order t k ≡ suc (path false order a k)
  find_is : find order t k ≡ find order a k
  insert_is : (v s : ℕ) → insert order t k v s ≡ over (insert order a k v s)

-- it goes to the side that the key is on
goes : {K : Type 0} (order : K → K → Ordering) (k : K) (nodes : List (Node K)) (i : ℕ) (n : Node K) (t : Avl K) (o : Opened nodes i n t) (side : Side) → side_of (order k n.entry.key) ≡ Some side →
    GoesInto order k t (on side o.a o.b) (λ u. balance i n.entry.key n.entry.ticket (on side u o.a) (on side o.b u))
goes order k nodes i n t o side e = record {
  path_is = ap (λ u. path false order u k) o.is ∙ ap suc (by_side (order k n.entry.key) side (λ s. path false order (on s o.a o.b) k) 0 e);
  find_is = ap (λ u. find order u k) o.is ∙ by_side (order k n.entry.key) side (λ s. find order (on s o.a o.b) k) (Some n.entry.ticket) e;
  insert_is = λ v s. ap (λ u. insert order u k v s) o.is
      ∙ by_side (order k n.entry.key) side (λ side. balance i n.entry.key n.entry.ticket (on side (insert order (on side o.a o.b) k v s) o.a) (on side o.b (insert order (on side o.a o.b) k v s))) (fork i n.entry.key n.entry.ticket o.a o.b) e;
}

-- the pair came in: its key was absent, and it stands in the slot given
record Accepted {K : Type 0} (order : K → K → Ordering) (found : Option ℕ) (slot : Link) (nodes : List (Node K)) (t : Avl K) (k : K) (v : ℕ) (after : List (Node K)) (top : Link) : Type 0 where
  s : ℕ
  absent : found ≡ None
  given : slot ≡ Some s
  grown : Reshaped nodes after (s ∷ slots t) top (insert order t k v s)

module _ {K : Type 0} (order : K → K → Ordering) (k : K) (v : ℕ) (nodes after : List (Node K)) where
  -- an insertion that answers a link accepted the pair, and the other way round
  accepts : (found : Option ℕ) (slot : Link) (t : Avl K) (top : Link) → GrownBy order found slot nodes t k v after (Ok top) → Accepted order found slot nodes t k v after top
  accepts (Some held) slot t top g = absurd (let e = g.0 in cc)
  accepts None None t top g = absurd (let e = g.0 in cc)
  accepts None (Some s) t top g =
      let e = g.1.0 in
      let is : g.0 ≡ top = cc in
      record { s = s; absent = refl; given = refl; grown = subst (λ at. Reshaped nodes after (s ∷ slots t) at (insert order t k v s)) is g.1.1 }

  accepted : (found : Option ℕ) (slot : Link) (t : Avl K) (top : Link) → Accepted order found slot nodes t k v after top → GrownBy order found slot nodes t k v after (Ok top)
  accepted found slot t top a =
      subst (λ f. GrownBy order f slot nodes t k v after (Ok top)) (sym a.absent) (subst (λ at. GrownBy order None at nodes t k v after (Ok top)) (sym a.given) (top, (refl, a.grown)))

  -- a refusal does not depend on the tree
  refuses : (found : Option ℕ) (slot : Link) (a t : Avl K) (refusal : Refusal) → GrownBy order found slot nodes a k v after (Err refusal) → GrownBy order found slot nodes t k v after (Err refusal)
  refuses (Some held) slot a t refusal g = g
  refuses None None a t refusal g = g
  refuses None (Some s) a t refusal g = absurd (let e = g.1.0 in cc)

-- what an insertion into the side a makes of t: a refusal is passed up, and an accepted pair is in t too
module _ {K : Type 0} (order : K → K → Ordering) (k : K) (v : ℕ) (nodes : List (Node K)) (slot : Link) (t a : Avl K) (over : Avl K → Avl K) (way : GoesInto order k t a over) where
  side_refused : (mid : List (Node K)) (r : Counted (Result Link Refusal)) (refusal : Refusal) → Inserted order nodes slot a k v mid r → r.answer ≡ Err refusal →
      Inserted order nodes slot t k v mid (record { answer = Err refusal; comparisons = r.comparisons + 1 })
  side_refused mid r refusal below is = record {
    comparisons = let e = below.comparisons in let f = way.path_is in omega arith;
    outcome = subst (λ f. GrownBy order f slot nodes t k v mid (Err refusal)) (sym way.find_is)
        (refuses order k v nodes mid (find order a k) slot a t refusal (subst (λ x. GrownBy order (find order a k) slot nodes a k v mid x) is below.outcome));
  }

  side_accepted : (mid after : List (Node K)) (comparisons : ℕ) (side top : Link) → comparisons ≡ path false order a k → (x : Accepted order (find order a k) slot nodes a k v mid side) →
      Reshaped nodes after (x.s ∷ slots t) top (over (insert order a k v x.s)) → Inserted order nodes slot t k v after (record { answer = Ok top; comparisons = comparisons + 1 })
  side_accepted mid after comparisons side top count x r = record {
    comparisons = let f = way.path_is in omega arith;
    outcome = accepted order k v nodes after (find order t k) slot t top
        (record { s = x.s; absent = way.find_is ∙ x.absent; given = x.given; grown = subst (Reshaped nodes after (x.s ∷ slots t) top) (sym (way.insert_is v x.s)) r });
  }

-- a slot that is apart from a tree is apart from a part of it
spot_part : {K : Type 0} (nodes : List (Node K)) (slot : Link) (t u : Avl K) → ((s : ℕ) → Apart s (slots t) → Apart s (slots u)) → Spot nodes slot t → Spot nodes slot u
spot_part nodes None t u off p = tt
spot_part nodes (Some s) t u off p = (p.0, off s p.1)

-- what the contract of an insertion tells of the side that it was made into
module _ {K : Type 0} {order : K → K → Ordering} {k : K} {v : ℕ} {nodes : List (Node K)} {at slot : Link} {a : Avl K} (g : Changing nodes at slot a)
    {mid : List (Node K)} {r : Counted (Result Link Refusal)} (below : Inserts order nodes at slot k v mid r) where
  few_comparisons : r.comparisons ≤ 100
  few_comparisons = omega (arith, (below a g).comparisons, path_low false order k a, g.placed.low)

  came_in : (side : Link) → r.answer ≡ Ok side → Accepted order (find order a k) slot nodes a k v mid side
  came_in side ok = accepts order k v nodes mid (find order a k) slot a side (subst (λ x. GrownBy order (find order a k) slot nodes a k v mid x) ok (below a g).outcome)

  grown_low : (s : ℕ) → height (insert order a k v s) ≤ 101
  grown_low s = omega (arith, (insert_balanced order a k v s g.balanced).high, g.placed.low)

-- at the root that was read: its sides can change, and are lower than it, so that the way down ends
module _ {K : Type 0} {nodes : List (Node K)} {at slot : Link} {i : ℕ} {n : Node K} (is : at ≡ Some i) (read : n ≡ get_or nodes i n) {t : Avl K} (g : Changing nodes at slot t) where
  root : Opened nodes i n t
  root = reads nodes at i n t g.placed.stands is read

  root_sides : Siding nodes i n.left n.right root.a root.b
  root_sides = opened_sides nodes at slot i n t g is root

  root_slots : slots t ≡ slots root.a ++ (i ∷ slots root.b)
  root_slots = ap slots root.is

  -- the slot given is not one of the tree
  unused : (s : ℕ) → slot ≡ Some s → Apart s (slots root.a ++ (i ∷ slots root.b))
  unused s e = subst (Apart s) root_slots (subst (λ x. Spot nodes x t) e g.spot).1

  -- a side of it, at the link that was read
  module _ (side : Side) {from : Link} (from_is : from ≡ link_on side n) where
    pub side_falls : height_at nodes from < height_at nodes at
    side_falls = omega (arith, side_lower nodes at i n t g.placed.stands root side, ap (height_at nodes) from_is)

    can_change : Changing nodes from slot (on side root.a root.b)
    can_change =
        let spot = spot_part nodes slot t (on side root.a root.b) (λ s off. apart_on i root.a root.b side s (subst (Apart s) root_slots off)) g.spot in
        subst (λ l. Changing nodes l slot (on side root.a root.b)) (sym from_is) (side_changing n root_sides side slot spot)

    pub side_changeable : Changeable nodes from slot
    side_changeable = (on side root.a root.b, can_change)

  -- the key is held here
  pub meets : (order : K → K → Ordering) (k : K) (v : ℕ) → side_of (order k n.entry.key) ≡ None → Inserted order nodes slot t k v nodes (record { answer = Err KeyHeld; comparisons = 1 })
  meets order k v e =
      let equal = same_key (order k n.entry.key) e in
      record {
        comparisons = sym (ap (λ u. path false order u k) root.is ∙ ap suc (picks _ _ _ equal));
        outcome = subst (λ f. GrownBy order f slot nodes t k v nodes (Err KeyHeld)) (sym (ap (λ u. find order u k) root.is ∙ picks _ _ _ equal)) (refl, refl);
      }

  -- the insertion went to a side: a refusal is passed up, else the root is put over the side that has grown
  module _ (side : Side) {from : Link} (from_is : from ≡ link_on side n) {order : K → K → Ordering} {k : K} {v : ℕ} {mid : List (Node K)} {r : Counted (Result Link Refusal)} (below : Inserts order nodes from slot k v mid r) where
    pub side_few : r.comparisons ≤ 100
    side_few = few_comparisons (can_change side from_is) below

    pub passed_up : side_of (order k n.entry.key) ≡ Some side → {refusal : Refusal} → r.answer ≡ Err refusal → Inserted order nodes slot t k v mid (record { answer = Err refusal; comparisons = r.comparisons + 1 })
    passed_up e {refusal} refused = side_refused order k v nodes slot t (on side root.a root.b) _ (goes order k nodes i n t root side e) mid r refusal (below _ (can_change side from_is)) refused

    module _ (kept : length mid ≡ length nodes) {up : Link} (ok : r.answer ≡ Ok up) where
      came : Accepted order (find order (on side root.a root.b) k) slot nodes (on side root.a root.b) k v mid up
      came = came_in (can_change side from_is) below up ok

      abbrev grown_side : Avl K
      grown_side = insert order (on side root.a root.b) k v came.s

      one_more : OneMore came.s (slots root.a ++ (i ∷ slots root.b)) (slots (on side grown_side root.a) ++ (i ∷ slots (on side root.b grown_side)))
      one_more = more_on i root.a root.b came.s side grown_side (insert_slots order k v came.s (on side root.a root.b) came.absent)

      rejoined : Joining 250 mid i (on side up n.left) (on side n.right up) (on side grown_side root.a) (on side root.b grown_side)
      rejoined =
          let off = unused came.s came.given in
          let far : Avl K = on side root.b root.a in
          rejoins n root_sides side kept came.grown
          (crossed_more came.s (slots (on side root.a root.b)) (slots far) (apart_far i root.a root.b side came.s off) (off_other n root_sides side))
          (omega (arith, grown_low (can_change side from_is) below came.s)) (distinct_more came.s _ _ one_more off root_sides.joining.distinct)

      module _ {over : Node K} (over_is : over ≡ with_link side up n) where
        pub grown_joins : Joinable 250 mid i over
        grown_joins = subst (Joinable 250 mid i) (sym over_is) (on side grown_side root.a, (on side root.b grown_side, rejoined))

        pub grown_settles : side_of (order k n.entry.key) ≡ Some side → {after : List (Node K)} {top : Link} → Joins 250 balance mid i over after top →
            Inserted order nodes slot t k v after (record { answer = Ok top; comparisons = r.comparisons + 1 })
        grown_settles e {after} {top} settled =
            side_accepted order k v nodes slot t (on side root.a root.b) _ (goes order k nodes i n t root side e) mid after r.comparisons up top (below _ (can_change side from_is)).comparisons came
            (both_steps nodes mid after (came.s ∷ slots (on side root.a root.b)) _ (came.s ∷ slots t) up top _ _ came.grown
            (subst (λ m. Joins 250 balance mid i m after top) over_is settled _ _ rejoined)
            (λ m apart. let all = subst (Apart m) root_slots apart.1 in
            ((apart.0, apart_on i root.a root.b side m all), all_with came.s _ _ one_more (λ x. m ≡ x → ⊥) apart.0 all)))
