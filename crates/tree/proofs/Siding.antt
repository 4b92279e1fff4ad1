-- A tree that can change, its root read: its two sides, each of which can change by itself.
use Rattle.std.proofs.Common.{◌≡◌, ℕ, ◌≤◌, List, ◌∷◌, [], ◌++◌, length, Some, None, Ordering, Less, Equal, Greater, refl, sym, ap, subst, arith}
use Rattle.std.specs.List.{AllByRecursion}
use Rattle.digits.proofs.Every.{all_left, all_right}
use Rattle.books.specs.Plain.{by_order}
use Rattle.books.specs.Meaning.{OneMore}
use Rattle.books.proofs.Cuts.{more_left, more_right, more_cons}
use Rattle.avl.specs.Avl.{Avl, height, Balanced, slots}
use Rattle.avl.specs.Model.{Apart, Distinct}
use Rattle.avl.proofs.Slots.{Sides, sides}
use Rattle.tree.specs.Links.{Link}
use Rattle.tree.specs.declared.nodes.Node.{Node}
use Rattle.tree.specs.declared.nodes.Side.{Side}
use Rattle.tree.specs.declared.nodes.Side.TheVariants.{Left, Right}
use Rattle.tree.specs.Changes.{Spot, Changing, Siding}
use Rattle.tree.specs.Shaping.{Joining}
use Rattle.tree.specs.Sides.{side_of, on, link_on}
use Rattle.tree.specs.Standing.{Reshaped}
use Rattle.tree.proofs.Rotations.{joins_left, joins_right}
use Rattle.tree.proofs.Standing.{Opened, leads_inside}

pub opened_sides : {K : Type 0} (nodes : List (Node K)) (at slot : Link) (i : ℕ) (n : Node K) (t : Avl K) → Changing nodes at slot t → at ≡ Some i → (o : Opened nodes i n t) → Siding nodes i n.left n.right o.a o.b
opened_sides nodes at slot i n t c is o =
    let h = ap height o.is in
    let low = c.placed.low in
    let balanced = subst Balanced o.is c.balanced in
    record {
      joining = record { left_stands = o.left; right_stands = o.right; distinct = subst (λ u. Distinct (slots u)) o.is c.placed.distinct; within = leads_inside nodes at i t c.placed.stands is; left_low = omega arith; right_low = omega arith };
      left_balanced = balanced.2;
      right_balanced = balanced.3;
    }

-- one of three, by the side that a key is on
pub by_side : {X : Type 0} (w : Ordering) (side : Side) (f : Side → X) (equal : X) → side_of w ≡ Some side → by_order w (f Left) equal (f Right) ≡ f side
by_side Less Left f equal e = refl
by_side Less Right f equal e = absurd cc
by_side Equal side f equal e = absurd cc
by_side Greater Left f equal e = absurd cc
by_side Greater Right f equal e = refl

pub same_key : (w : Ordering) → side_of w ≡ None → Equal ≡ w
same_key Less e = absurd cc
same_key Equal e = refl
same_key Greater e = absurd cc

-- slots that are apart from some are apart from one more
pub crossed_more : (s : ℕ) (used others : List ℕ) → Apart s others → AllByRecursion (λ m. Apart m used) others → AllByRecursion (λ m. Apart m (s ∷ used)) others
crossed_more s used [] off apart = tt
crossed_more s used (m ∷ others) off apart = ((λ e. off.0 (sym e), apart.0), crossed_more s used others off.1 apart.1)

module _ {K : Type 0} (i : ℕ) (a b : Avl K) where
  -- what is apart from a node's slots is apart from those of each side
  pub apart_on : (side : Side) (m : ℕ) → Apart m (slots a ++ (i ∷ slots b)) → Apart m (slots (on side a b))
  apart_on Left m apart = all_left (λ x. m ≡ x → ⊥) (slots a) (i ∷ slots b) apart
  apart_on Right m apart = (all_right (λ x. m ≡ x → ⊥) (slots a) (i ∷ slots b) apart).1

  pub apart_far : (side : Side) (m : ℕ) → Apart m (slots a ++ (i ∷ slots b)) → Apart m (slots (on side b a))
  apart_far Left m apart = apart_on Right m apart
  apart_far Right m apart = apart_on Left m apart

  -- a slot more or less on a side is one more or less in all
  pub more_on : (x : ℕ) (side : Side) (u : Avl K) → OneMore x (slots (on side a b)) (slots u) → OneMore x (slots a ++ (i ∷ slots b)) (slots (on side u a) ++ (i ∷ slots (on side b u)))
  more_on x Left u m = more_left x _ _ _ m
  more_on x Right u m = more_right x _ _ _ (more_cons x i _ _ m)

  pub less_on : (x : ℕ) (side : Side) (u : Avl K) → OneMore x (slots u) (slots (on side a b)) → OneMore x (slots (on side u a) ++ (i ∷ slots (on side b u))) (slots a ++ (i ∷ slots b))
  less_on x Left u m = more_left x _ _ _ m
  less_on x Right u m = more_right x _ _ _ (more_cons x i _ _ m)

module _ {K : Type 0} {nodes : List (Node K)} {i : ℕ} (n : Node K) {a b : Avl K} (s : Siding nodes i n.left n.right a b) where
  apart_sides : Sides i a b
  apart_sides = sides i n.entry.key n.entry.ticket a b s.joining.distinct

  -- no slot is on both sides
  pub off_other : (side : Side) → AllByRecursion (λ m. Apart m (slots (on side a b))) (slots (on side b a))
  off_other Left = apart_sides.right_left
  off_other Right = apart_sides.left_right

  -- where a slot is at hand for a side, that side can change
  pub side_changing : (side : Side) (slot : Link) → Spot nodes slot (on side a b) → Changing nodes (link_on side n) slot (on side a b)
  side_changing Left slot spot = record { placed = record { stands = s.joining.left_stands; distinct = apart_sides.left; low = s.joining.left_low }; balanced = s.left_balanced; spot = spot }
  side_changing Right slot spot = record { placed = record { stands = s.joining.right_stands; distinct = apart_sides.right; low = s.joining.right_low }; balanced = s.right_balanced; spot = spot }

  -- a side was reshaped: the node can be put over both again
  pub rejoins : (side : Side) {mid : List (Node K)} {used : List ℕ} {top : Link} {u : Avl K} → length mid ≡ length nodes → Reshaped nodes mid used top u →
      AllByRecursion (λ m. Apart m used) (slots (on side b a)) → height u ≤ 250 → Distinct (slots (on side u a) ++ (i ∷ slots (on side b u))) →
      Joining 250 mid i (on side top n.left) (on side n.right top) (on side u a) (on side b u)
  rejoins Left kept r off low d = joins_left 250 nodes _ i _ _ n.right _ b r s.joining.right_stands off kept s.joining.within low (omega (arith, s.joining.right_low)) d
  rejoins Right kept r off low d = joins_right 250 nodes _ i _ _ n.left _ a r s.joining.left_stands off kept s.joining.within low (omega (arith, s.joining.left_low)) d
