-- Nodes written over their sides, and rotations: what each step asks, and what it leaves.
use Rattle.std.proofs.Common.{◌≡◌, ℕ, suc, ◌+◌, ◌<◌, ◌≤◌, max, List, ◌∷◌, ◌++◌, length, get_or, set, Some, sym, refl, ap, ◌∙◌, subst, arith}
use Rattle.std.specs.List.{slice_get, AllByRecursion}
use Rattle.digits.proofs.Every.{all_weaker, all_left, all_right}
use Rattle.avl.specs.Avl.{Avl, fork, height, slots, turn_right, turn_left}
use Rattle.avl.specs.Model.{Apart, Distinct}
use Rattle.avl.proofs.Inorder.{turn_right_inorder, turn_left_inorder}
use Rattle.avl.proofs.Slots.{Sides, sides}
use Rattle.tree.specs.Links.{Link}
use Rattle.tree.specs.declared.nodes.Node.{Node}
use Rattle.tree.specs.declared.nodes.Side.{Side}
use Rattle.tree.specs.declared.nodes.Side.TheVariants.{Left, Right}
use Rattle.tree.specs.Shaping.{Joining, Joinable, Joins, turn}
use Rattle.tree.specs.Sides.{other, on, link_on, with_link}
use Rattle.tree.specs.Standing.{node_of, Stands, height_at, Reshaped}
use Rattle.tree.proofs.Standing.{Opened, reads, leads_inside, nth_set_same, nth_set_other, told_truly, stands_still, stands_apart}

-- the tree on a side stands at the link to it
pub side_stands : {K : Type 0} {limit : ℕ} {nodes : List (Node K)} {i : ℕ} (n : Node K) {a b : Avl K} (side : Side) → Joining limit nodes i n.left n.right a b → Stands nodes (link_on side n) (on side a b)
side_stands n Left j = j.left_stands
side_stands n Right j = j.right_stands

-- a node put over its two sides
module _ {K : Type 0} {limit : ℕ} {nodes : List (Node K)} {i : ℕ} (n : Node K) {a b : Avl K} (j : Joining limit nodes i n.left n.right a b) where
  pub joined_height : max (height_at nodes n.left) (height_at nodes n.right) ≡ max (height a) (height b)
  joined_height = let x = told_truly nodes n.left a j.left_stands in let y = told_truly nodes n.right b j.right_stands in cc

  pub forks : (h : ℕ) → h ≡ max (height_at nodes n.left) (height_at nodes n.right) →
      Reshaped nodes (set nodes i (record { entry = n.entry; left = n.left; right = n.right; height = h + 1 })) (slots a ++ (i ∷ slots b)) (Some i) (fork i n.entry.key n.entry.ticket a b)
  forks h is =
      let put : Node K = record { entry = n.entry; left = n.left; right = n.right; height = h + 1 } in
      let after : List (Node K) = set nodes i put in
      let same : ℕ → Type 0 = λ m. slice_get after m ≡ slice_get nodes m in
      let s = sides i n.entry.key n.entry.ticket a b j.distinct in
      let top : h + 1 ≡ suc (max (height a) (height b)) = let e = joined_height in omega arith in
      let made : put ≡ node_of n.entry.key n.entry.ticket a b = λ p. record { entry = n.entry; left = j.left_stands.linked p; right = j.right_stands.linked p; height = top p } in
      let still : (t : Avl K) (at : Link) → Apart i (slots t) → Stands nodes at t → Stands after at t =
      λ t at apart. stands_still nodes after at t (all_weaker (λ m. i ≡ m → ⊥) same (λ m ne. nth_set_other nodes i m put (λ e. ne (sym e))) (slots t) apart) in
      record {
        stands = record {
          lies = (nth_set_same nodes i put j.within ∙ ap Some made, (still a n.left s.off_left j.left_stands).lies, (still b n.right s.off_right j.right_stands).lies);
          linked = refl;
        };
        frame = λ m apart. nth_set_other nodes i m put (all_right (λ x. m ≡ x → ⊥) (slots a) (i ∷ slots b) apart).0;
      }

-- one step after another: together they change what either changes
pub both_steps : {K : Type 0} (nodes mid after : List (Node K)) (used later all : List ℕ) (at top : Link) (t u : Avl K) →
    Reshaped nodes mid used at t → Reshaped mid after later top u → ((m : ℕ) → Apart m all → Apart m used × Apart m later) → Reshaped nodes after all top u
both_steps nodes mid after used later all at top t u r s off = record { stands = s.stands; frame = λ m apart. s.frame m (off m apart).1 ∙ r.frame m (off m apart).0 }

-- one side of a node was reshaped, and its other side u stands as it stood: the node's slot can be the node over both again
module _ {K : Type 0} (limit : ℕ) (nodes mid : List (Node K)) (i : ℕ) (used : List ℕ) (at other : Link) (t u : Avl K)
    (r : Reshaped nodes mid used at t) (s : Stands nodes other u) (apart : AllByRecursion (λ m. Apart m used) (slots u))
    (kept : length mid ≡ length nodes) (within : i < length nodes) (low : height t ≤ limit) (other_low : height u ≤ limit) where
  pub joins_left : Distinct (slots t ++ (i ∷ slots u)) → Joining limit mid i at other t u
  joins_left d = record { left_stands = r.stands; right_stands = stands_apart nodes mid used other u r.frame apart s; distinct = d; within = omega arith; left_low = low; right_low = other_low }

  pub joins_right : Distinct (slots u ++ (i ∷ slots t)) → Joining limit mid i other at u t
  joins_right d = record { left_stands = stands_apart nodes mid used other u r.frame apart s; right_stands = r.stands; distinct = d; within = omega arith; left_low = other_low; right_low = low }

-- trees that are low enough for less room are low enough for more
pub joins_within : {K : Type 0} (limit more : ℕ) {nodes : List (Node K)} {i : ℕ} {left right : Link} {a b : Avl K} → limit ≤ more → Joining limit nodes i left right a b → Joining more nodes i left right a b
joins_within limit more le g =
    record { left_stands = g.left_stands; right_stands = g.right_stands; distinct = g.distinct; within = g.within; left_low = omega (arith, g.left_low); right_low = omega (arith, g.right_low) }

-- a left side turned up: first the node over its inner part and the right side, then its root over its outer part and that node
module _ {K : Type 0} {nodes : List (Node K)} {i : ℕ} (n : Node K) {j : ℕ} {root : Node K} (is : n.left ≡ Some j) (read : root ≡ get_or nodes j root)
    {a b : Avl K} (g : Joining 253 nodes i n.left n.right a b) where
  opened_left : Opened nodes j root a
  opened_left = reads nodes n.left j root a g.left_stands is read

  turn_right_is : turn_right i n.entry.key n.entry.ticket a b ≡ fork j root.entry.key root.entry.ticket opened_left.a (fork i n.entry.key n.entry.ticket opened_left.b b)
  turn_right_is = ap (λ t. turn_right i n.entry.key n.entry.ticket t b) opened_left.is

  turned_slots_right : slots a ++ (i ∷ slots b) ≡ slots opened_left.a ++ (j ∷ (slots opened_left.b ++ (i ∷ slots b)))
  turned_slots_right = sym (turn_right_inorder (λ i k v. i) i n.entry.key n.entry.ticket a b) ∙ ap slots turn_right_is

  turned_sides_right : Sides j opened_left.a (fork i n.entry.key n.entry.ticket opened_left.b b)
  turned_sides_right = sides j root.entry.key root.entry.ticket opened_left.a (fork i n.entry.key n.entry.ticket opened_left.b b) (subst Distinct turned_slots_right g.distinct)

  right_inner : Joining 254 nodes i root.right n.right opened_left.b b
  right_inner =
      let h = ap height opened_left.is in
      record { left_stands = opened_left.right; right_stands = g.right_stands; distinct = turned_sides_right.right; within = g.within; left_low = omega (arith, g.left_low); right_low = omega (arith, g.right_low) }

  turns_right_inner : Joinable 254 nodes i (with_link Left root.right n)
  turns_right_inner = (opened_left.b, (b, right_inner))

  module _ {mid : List (Node K)} {inner : Link} (kept : length mid ≡ length nodes) (one : Joins 254 fork nodes i (with_link Left root.right n) mid inner) where
    right_outer : Joining 254 mid j root.left inner opened_left.a (fork i n.entry.key n.entry.ticket opened_left.b b)
    right_outer =
        let h = ap height opened_left.is in
        joins_right 254 nodes mid j _ inner root.left (fork i n.entry.key n.entry.ticket opened_left.b b) opened_left.a (one opened_left.b b right_inner) opened_left.left turned_sides_right.left_right
        kept (leads_inside nodes n.left j a g.left_stands is) (omega (arith, g.left_low, g.right_low)) (omega (arith, g.left_low)) (subst Distinct turned_slots_right g.distinct)

    turns_right_outer : Joinable 254 mid j (with_link Right inner root)
    turns_right_outer = (opened_left.a, (fork i n.entry.key n.entry.ticket opened_left.b b, right_outer))

    turns_right : {after : List (Node K)} {top : Link} → Joins 254 fork mid j (with_link Right inner root) after top → Reshaped nodes after (slots a ++ (i ∷ slots b)) top (turn_right i n.entry.key n.entry.ticket a b)
    turns_right {after} {top} two =
        subst (Reshaped nodes after (slots a ++ (i ∷ slots b)) top) (sym turn_right_is)
        (both_steps nodes mid after _ _ (slots a ++ (i ∷ slots b)) inner top _ _ (one opened_left.b b right_inner) (two _ _ right_outer)
        (λ m apart. let all = subst (Apart m) turned_slots_right apart in ((all_right (λ x. m ≡ x → ⊥) (slots opened_left.a) (j ∷ _) all).1, all)))

-- a right side turned up: first the node over the left side and its inner part, then its root over that node and its outer part
module _ {K : Type 0} {nodes : List (Node K)} {i : ℕ} (n : Node K) {j : ℕ} {root : Node K} (is : n.right ≡ Some j) (read : root ≡ get_or nodes j root)
    {a b : Avl K} (g : Joining 253 nodes i n.left n.right a b) where
  opened_right : Opened nodes j root b
  opened_right = reads nodes n.right j root b g.right_stands is read

  turn_left_is : turn_left i n.entry.key n.entry.ticket a b ≡ fork j root.entry.key root.entry.ticket (fork i n.entry.key n.entry.ticket a opened_right.a) opened_right.b
  turn_left_is = ap (λ t. turn_left i n.entry.key n.entry.ticket a t) opened_right.is

  turned_slots_left : slots a ++ (i ∷ slots b) ≡ (slots a ++ (i ∷ slots opened_right.a)) ++ (j ∷ slots opened_right.b)
  turned_slots_left = sym (turn_left_inorder (λ i k v. i) i n.entry.key n.entry.ticket a b) ∙ ap slots turn_left_is

  turned_sides_left : Sides j (fork i n.entry.key n.entry.ticket a opened_right.a) opened_right.b
  turned_sides_left = sides j root.entry.key root.entry.ticket (fork i n.entry.key n.entry.ticket a opened_right.a) opened_right.b (subst Distinct turned_slots_left g.distinct)

  left_inner : Joining 254 nodes i n.left root.left a opened_right.a
  left_inner =
      let h = ap height opened_right.is in
      record { left_stands = g.left_stands; right_stands = opened_right.left; distinct = turned_sides_left.left; within = g.within; left_low = omega (arith, g.left_low); right_low = omega (arith, g.right_low) }

  turns_left_inner : Joinable 254 nodes i (with_link Right root.left n)
  turns_left_inner = (a, (opened_right.a, left_inner))

  module _ {mid : List (Node K)} {inner : Link} (kept : length mid ≡ length nodes) (one : Joins 254 fork nodes i (with_link Right root.left n) mid inner) where
    left_outer : Joining 254 mid j inner root.right (fork i n.entry.key n.entry.ticket a opened_right.a) opened_right.b
    left_outer =
        let h = ap height opened_right.is in
        joins_left 254 nodes mid j _ inner root.right (fork i n.entry.key n.entry.ticket a opened_right.a) opened_right.b (one a opened_right.a left_inner) opened_right.right turned_sides_left.right_left
        kept (leads_inside nodes n.right j b g.right_stands is) (omega (arith, g.left_low, g.right_low)) (omega (arith, g.right_low)) (subst Distinct turned_slots_left g.distinct)

    turns_left_outer : Joinable 254 mid j (with_link Left inner root)
    turns_left_outer = (fork i n.entry.key n.entry.ticket a opened_right.a, (opened_right.b, left_outer))

    turns_left : {after : List (Node K)} {top : Link} → Joins 254 fork mid j (with_link Left inner root) after top → Reshaped nodes after (slots a ++ (i ∷ slots b)) top (turn_left i n.entry.key n.entry.ticket a b)
    turns_left {after} {top} two =
        subst (Reshaped nodes after (slots a ++ (i ∷ slots b)) top) (sym turn_left_is)
        (both_steps nodes mid after _ _ (slots a ++ (i ∷ slots b)) inner top _ _ (one a opened_right.a left_inner) (two _ _ left_outer)
        (λ m apart. let all = subst (Apart m) turned_slots_left apart in (all_left (λ x. m ≡ x → ⊥) (slots a ++ (i ∷ slots opened_right.a)) (j ∷ slots opened_right.b) all, all)))

-- a side turned up: first the node over its inner part and the other side, then its root over its outer part and that node
module _ {K : Type 0} {nodes : List (Node K)} {i : ℕ} (n : Node K) {j : ℕ} {root : Node K} (side : Side) (is : link_on side n ≡ Some j) (read : root ≡ get_or nodes j root)
    {lower : Node K} (lower_is : lower ≡ with_link side (link_on (other side) root) n) where
  pub turns_inner : Joinable 253 nodes i n → Joinable 254 nodes i lower
  turns_inner (a, (b, g)) = subst (Joinable 254 nodes i) (sym lower_is) (by side is)
    where
      by : (side : Side) → link_on side n ≡ Some j → Joinable 254 nodes i (with_link side (link_on (other side) root) n)
      by Left is = turns_right_inner n is read g
      by Right is = turns_left_inner n is read g

  module _ {mid : List (Node K)} {inner : Link} (kept : length mid ≡ length nodes) (one : Joins 254 fork nodes i lower mid inner) {upper : Node K} (upper_is : upper ≡ with_link (other side) inner root) where
    put_inner : Joins 254 fork nodes i (with_link side (link_on (other side) root) n) mid inner
    put_inner = subst (λ m. Joins 254 fork nodes i m mid inner) lower_is one

    pub turns_outer : Joinable 253 nodes i n → Joinable 254 mid j upper
    turns_outer (a, (b, g)) = subst (Joinable 254 mid j) (sym upper_is) (by side is put_inner)
      where
        by : (side : Side) → link_on side n ≡ Some j → Joins 254 fork nodes i (with_link side (link_on (other side) root) n) mid inner → Joinable 254 mid j (with_link (other side) inner root)
        by Left is one = turns_right_outer n is read g kept one
        by Right is one = turns_left_outer n is read g kept one

    pub turns : {after : List (Node K)} {top : Link} → Joins 254 fork mid j upper after top → Joins 253 (turn side) nodes i n after top
    turns {after} {top} two a b g = by side is put_inner (subst (λ m. Joins 254 fork mid j m after top) upper_is two)
      where
        by : (side : Side) → link_on side n ≡ Some j → Joins 254 fork nodes i (with_link side (link_on (other side) root) n) mid inner → Joins 254 fork mid j (with_link (other side) inner root) after top →
            Reshaped nodes after (slots a ++ (i ∷ slots b)) top (turn side i n.entry.key n.entry.ticket a b)
        by Left is one two = turns_right n is read g kept one two
        by Right is one two = turns_left n is read g kept one two
