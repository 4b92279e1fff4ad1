-- Sides readied to come up, and nodes put in balance: what each step asks, and what it leaves.
use Rattle.std.proofs.Common.{◌≡◌, ℕ, suc, ◌<◌, ◌≤◌, max, ltb, List, ◌∷◌, ◌++◌, length, get_or, Some, None, Option, sym, refl, ap, ◌∙◌, subst, arith}
use Rattle.std.proofs.lemmas.Bool.{cond_both, cond-true, cond-false, lt-ltb, le-ltb, ltb-true, ltb-false}
use Rattle.avl.specs.Avl.{Avl, tip, fork, height, slots, turn_right, turn_left, ready_left, ready_right, balance}
use Rattle.avl.specs.Model.{Apart, Distinct}
use Rattle.avl.proofs.Balance.{balance_is_right, balance_is_left, balance_is_fork}
use Rattle.avl.proofs.Inorder.{ready_left_inorder, ready_right_inorder}
use Rattle.avl.proofs.Slots.{Sides, sides}
use Rattle.tree.specs.Links.{Link}
use Rattle.tree.specs.declared.nodes.Node.{Node}
use Rattle.tree.specs.declared.nodes.Side.{Side}
use Rattle.tree.specs.declared.nodes.Side.TheVariants.{Left, Right}
use Rattle.tree.specs.Shaping.{Joining, Joinable, Joins, Turns, turn, ready, heavy}
use Rattle.tree.specs.Sides.{other, on, link_on, with_link}
use Rattle.tree.specs.Standing.{Stands, height_at, Reaches, Placed, HoldsATree, Reshaped}
use Rattle.tree.proofs.Standing.{Opened, reads, leads_inside, reaches, told_truly}
use Rattle.tree.proofs.Siding.{apart_on}
use Rattle.tree.proofs.Rotations.{both_steps, joins_left, joins_right, joins_within}

-- the root of a tree, read, over its two parts
module _ {K : Type 0} {nodes : List (Node K)} {at : Link} {j : ℕ} {n : Node K} (is : at ≡ Some j) (read : n ≡ get_or nodes j n) {t : Avl K} (p : Placed 251 nodes at t) where
  opened_root : Opened nodes j n t
  opened_root = reads nodes at j n t p.stands is read

  parts_join : Joining 253 nodes j n.left n.right opened_root.a opened_root.b
  parts_join =
      let h = ap height opened_root.is in
      record {
        left_stands = opened_root.left;
        right_stands = opened_root.right;
        distinct = subst (λ u. Distinct (slots u)) opened_root.is p.distinct;
        within = leads_inside nodes at j t p.stands is;
        left_low = omega (arith, p.low);
        right_low = omega (arith, p.low);
      }

  pub root_joins : Joinable 253 nodes j n
  root_joins = (opened_root.a, (opened_root.b, parts_join))

  pub part_reaches : (side : Side) → Reaches nodes (link_on side n)
  part_reaches Left = reaches nodes n.left opened_root.a opened_root.left
  part_reaches Right = reaches nodes n.right opened_root.b opened_root.right

  left_told : height_at nodes n.left ≡ height opened_root.a
  left_told = told_truly nodes n.left opened_root.a opened_root.left

  right_told : height_at nodes n.right ≡ height opened_root.b
  right_told = told_truly nodes n.right opened_root.b opened_root.right

  -- where the inner part is higher than the outer one, it is turned up
  turned_first : (side : Side) → height_at nodes (link_on side n) < height_at nodes (link_on (other side) n) → ready side t ≡ turn (other side) j n.entry.key n.entry.ticket opened_root.a opened_root.b
  turned_first Left lt = ap ready_left opened_root.is ∙ cond-true _ _ _ (lt-ltb (height opened_root.a) (height opened_root.b) (omega (arith, left_told, right_told)))
  turned_first Right lt = ap ready_right opened_root.is ∙ cond-true _ _ _ (lt-ltb (height opened_root.b) (height opened_root.a) (omega (arith, left_told, right_told)))

  pub readies : (side : Side) → height_at nodes (link_on side n) < height_at nodes (link_on (other side) n) → {after : List (Node K)} {top : Link} → Joins 253 (turn (other side)) nodes j n after top →
      Reshaped nodes after (slots t) top (ready side t)
  readies side lt {after} {top} one =
      subst (λ l. Reshaped nodes after l top (ready side t)) (sym (ap slots opened_root.is)) (subst (Reshaped nodes after _ top) (sym (turned_first side lt)) (one opened_root.a opened_root.b parts_join))

  -- else nothing changes
  left_alone : (side : Side) → height_at nodes (link_on (other side) n) ≤ height_at nodes (link_on side n) → ready side t ≡ t
  left_alone Left le = ap ready_left opened_root.is ∙ cond-false _ _ _ (le-ltb (height opened_root.a) (height opened_root.b) (omega (arith, left_told, right_told))) ∙ sym opened_root.is
  left_alone Right le = ap ready_right opened_root.is ∙ cond-false _ _ _ (le-ltb (height opened_root.b) (height opened_root.a) (omega (arith, left_told, right_told))) ∙ sym opened_root.is

  pub is_ready : (side : Side) → height_at nodes (link_on (other side) n) ≤ height_at nodes (link_on side n) → Reshaped nodes nodes (slots t) (Some j) (ready side t)
  is_ready side le = record { stands = subst (λ at. Stands nodes at (ready side t)) is (subst (Stands nodes at) (sym (left_alone side le)) p.stands); frame = λ m apart. refl }

-- a turn makes a node higher by one at most
turn_right_low : {K : Type 0} (i : ℕ) (k : K) (v : ℕ) (a b : Avl K) → height (turn_right i k v a b) ≤ suc (suc (max (height a) (height b)))
turn_right_low i k v tip b = omega arith
turn_right_low i k v (fork j q w c d) b = omega arith

turn_left_low : {K : Type 0} (i : ℕ) (k : K) (v : ℕ) (a b : Avl K) → height (turn_left i k v a b) ≤ suc (suc (max (height a) (height b)))
turn_left_low i k v a tip = omega arith
turn_left_low i k v a (fork j q w c d) = omega arith

ready_left_low : {K : Type 0} (t : Avl K) → height (ready_left t) ≤ suc (height t)
ready_left_low tip = omega arith
ready_left_low (fork j q w c d) = cond_both (ltb (height c) (height d)) _ _ (λ u. height u ≤ suc (suc (max (height c) (height d)))) (λ _. turn_left_low j q w c d) (λ _. omega arith)

ready_right_low : {K : Type 0} (t : Avl K) → height (ready_right t) ≤ suc (height t)
ready_right_low tip = omega arith
ready_right_low (fork j q w c d) = cond_both (ltb (height d) (height c)) _ _ (λ u. height u ≤ suc (suc (max (height c) (height d)))) (λ _. turn_right_low j q w c d) (λ _. omega arith)

-- what is known of two heights by the side that is higher by 2
abbrev pub HeavyBy : ℕ → ℕ → Option Side → Type 0
HeavyBy a b (Some side) = suc (on side b a) < on side a b
HeavyBy a b None = (a ≤ suc b) × (b ≤ suc a)

pub heavy_by : (a b : ℕ) (side : Option Side) → side ≡ heavy a b → HeavyBy a b side
heavy_by a b side is =
    subst (HeavyBy a b) (sym is) (cond_both (ltb (suc b) a) (Some Left) _ (HeavyBy a b) (λ e. ltb-true _ _ e)
    (λ e. cond_both (ltb (suc a) b) (Some Right) None (HeavyBy a b) (λ f. ltb-true _ _ f) (λ f. (ltb-false _ _ e, ltb-false _ _ f))))

-- a node over two sides, put in balance
module _ {K : Type 0} {nodes : List (Node K)} {i : ℕ} (n : Node K) {a b : Avl K} (g : Joining 250 nodes i n.left n.right a b) where
  apart_sides : Sides i a b
  apart_sides = sides i n.entry.key n.entry.ticket a b g.distinct

  told_left : height_at nodes n.left ≡ height a
  told_left = told_truly nodes n.left a g.left_stands

  told_right : height_at nodes n.right ≡ height b
  told_right = told_truly nodes n.right b g.right_stands

  pub sides_fit : (height_at nodes n.left ≤ 250) × (height_at nodes n.right ≤ 250)
  sides_fit = (omega (arith, told_left, g.left_low), omega (arith, told_right, g.right_low))

  -- where neither side is higher by 2, the node is only put
  pub settles_even : HeavyBy (height_at nodes n.left) (height_at nodes n.right) None → {after : List (Node K)} {top : Link} → Joins 254 fork nodes i n after top →
      Reshaped nodes after (slots a ++ (i ∷ slots b)) top (balance i n.entry.key n.entry.ticket a b)
  settles_even (le, le') {after} {top} one =
      subst (Reshaped nodes after (slots a ++ (i ∷ slots b)) top) (sym (balance_is_fork i n.entry.key n.entry.ticket a b (omega (arith, told_left, told_right)) (omega (arith, told_left, told_right))))
      (one a b (joins_within 250 254 (omega arith) g))

  -- where one is, it is readied and turned up
  side_placed : (side : Side) → Placed 251 nodes (link_on side n) (on side a b)
  side_placed Left = record { stands = g.left_stands; distinct = apart_sides.left; low = omega (arith, g.left_low) }
  side_placed Right = record { stands = g.right_stands; distinct = apart_sides.right; low = omega (arith, g.right_low) }

  pub side_holds : (side : Side) → HoldsATree 251 nodes (link_on side n)
  side_holds side = (on side a b, side_placed side)

  -- the two sides with that one readied
  abbrev up_left : Side → Avl K
  up_left side = on side (ready side a) a

  abbrev up_right : Side → Avl K
  up_right side = on side b (ready side b)

  ready_slots : (side : Side) → slots (up_left side) ++ (i ∷ slots (up_right side)) ≡ slots a ++ (i ∷ slots b)
  ready_slots Left = ap (λ l. l ++ (i ∷ slots b)) (ready_left_inorder (λ i k v. i) a)
  ready_slots Right = ap (λ l. slots a ++ (i ∷ l)) (ready_right_inorder (λ i k v. i) b)

  balance_turns : (side : Side) → suc (on side (height_at nodes n.right) (height_at nodes n.left)) < on side (height_at nodes n.left) (height_at nodes n.right) →
      balance i n.entry.key n.entry.ticket a b ≡ turn side i n.entry.key n.entry.ticket (up_left side) (up_right side)
  balance_turns Left lt = balance_is_right i n.entry.key n.entry.ticket a b (omega (arith, told_left, told_right))
  balance_turns Right lt = balance_is_left i n.entry.key n.entry.ticket a b (omega (arith, told_left, told_right))

  module _ (side : Side) {mid : List (Node K)} {up : Link} (kept : length mid ≡ length nodes) (one : Turns 251 (ready side) nodes (link_on side n) mid up) where
    readied : Joining 253 mid i (on side up n.left) (on side n.right up) (up_left side) (up_right side)
    readied = by side one (subst Distinct (sym (ready_slots side)) g.distinct)
      where
        by : (side : Side) → Turns 251 (ready side) nodes (link_on side n) mid up → Distinct (slots (up_left side) ++ (i ∷ slots (up_right side))) →
            Joining 253 mid i (on side up n.left) (on side n.right up) (up_left side) (up_right side)
        by Left one d =
            joins_left 253 nodes mid i (slots a) up n.right (ready_left a) b (one a (side_placed Left)) g.right_stands apart_sides.right_left
            kept g.within (omega (arith, ready_left_low a, g.left_low)) (omega (arith, g.right_low)) d
        by Right one d =
            joins_right 253 nodes mid i (slots b) up n.left (ready_right b) a (one b (side_placed Right)) g.left_stands apart_sides.left_right
            kept g.within (omega (arith, ready_right_low b, g.right_low)) (omega (arith, g.left_low)) d

    pub comes_up : {m : Node K} → m ≡ with_link side up n → Joinable 253 mid i m
    comes_up is = subst (Joinable 253 mid i) (sym is) (up_left side, (up_right side, readied))

    pub settles : {m : Node K} → m ≡ with_link side up n → HeavyBy (height_at nodes n.left) (height_at nodes n.right) (Some side) → {after : List (Node K)} {top : Link} → Joins 253 (turn side) mid i m after top →
        Reshaped nodes after (slots a ++ (i ∷ slots b)) top (balance i n.entry.key n.entry.ticket a b)
    settles is lt {after} {top} two =
        subst (Reshaped nodes after (slots a ++ (i ∷ slots b)) top) (sym (balance_turns side lt))
        (both_steps nodes mid after (slots (on side a b)) _ (slots a ++ (i ∷ slots b)) up top (ready side (on side a b)) _ (one (on side a b) (side_placed side))
        (subst (λ m. Joins 253 (turn side) mid i m after top) is two (up_left side) (up_right side) readied)
        (λ m apart. (apart_on i a b side m apart, subst (Apart m) (sym (ready_slots side)) apart)))
