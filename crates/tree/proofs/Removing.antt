-- Removal: a tree that has lost a node, and a node that is put over it again.
use Rattle.std.proofs.Common.{◌≡◌, ℕ, suc, ◌+◌, ◌<◌, ◌≤◌, false, List, [], ◌∷◌, ◌++◌, length, get_or, Some, None, Option, Ordering, sym, refl, ap, ◌∙◌, subst, arith}
use Rattle.books.specs.declared.entries.Entry.{Entry}
use Rattle.books.specs.Meaning.{OneMore}
use Rattle.books.proofs.Cuts.{all_without}
use Rattle.avl.specs.Avl.{Avl, tip, fork, height, Balanced, slots, balance, least_slot, without_least, remove, freed, find, path}
use Rattle.avl.proofs.Balance.{without_least_balanced, remove_balanced}
use Rattle.avl.proofs.Height.{path_low}
use Rattle.avl.proofs.Inorder.{without_least_slots, remove_slots}
use Rattle.avl.proofs.Slots.{distinct_less}
use Rattle.tree.specs.Links.{Link}
use Rattle.tree.specs.declared.changes.Cut.{Cut}
use Rattle.tree.specs.declared.counted.Counted.{Counted}
use Rattle.tree.specs.declared.nodes.Node.{Node}
use Rattle.tree.specs.declared.nodes.Side.{Side}
use Rattle.tree.specs.declared.nodes.Side.TheVariants.{Left, Right}
use Rattle.tree.specs.Changes.{Spot, Changing, Changeable, Siding, Sided, LeastGone, TakesTheLeast, JoinedUp, JoinsUp, ShrunkBy, Removed, Removes}
use Rattle.tree.specs.Shaping.{Joining, Joinable, Joins}
use Rattle.tree.specs.Sides.{side_of, on, link_on, with_link}
use Rattle.tree.specs.Standing.{height_at, Reshaped}
use Rattle.tree.proofs.Descending.{picks}
use Rattle.tree.proofs.Rotations.{both_steps}
use Rattle.tree.proofs.Siding.{by_side, same_key, opened_sides, apart_on, less_on, off_other, side_changing, rejoins}
use Rattle.tree.proofs.Standing.{Opened, reads, side_lower, absent}

-- the node n in slot i was read, to which the link leads
pub record Root {K : Type 0} (nodes : List (Node K)) (at : Link) (i : ℕ) (n : Node K) : Type 0 where
  pub leads : at ≡ Some i
  pub read : n ≡ get_or nodes i n

pub root : {K : Type 0} (nodes : List (Node K)) {at : Link} {i : ℕ} {n : Node K} → at ≡ Some i → n ≡ get_or nodes i n → Root nodes at i n
root nodes leads read = record { leads = leads; read = read }

-- what it tells of any tree that can change there
module _ {K : Type 0} {nodes : List (Node K)} {at : Link} {i : ℕ} {n : Node K} (r : Root nodes at i n) where
  pub opened_root : (t : Avl K) → Changing nodes at None t → Opened nodes i n t
  opened_root t h = reads nodes at i n t h.placed.stands r.leads r.read

  pub root_sides : (t : Avl K) (h : Changing nodes at None t) → Siding nodes i n.left n.right (opened_root t h).a (opened_root t h).b
  root_sides t h = opened_sides nodes at None i n t h r.leads (opened_root t h)

  pub sided : Changeable nodes at None → Sided nodes i n
  sided (t, h) = ((opened_root t h).a, ((opened_root t h).b, root_sides t h))

  pub falls : (side : Side) {from : Link} → from ≡ link_on side n → Changeable nodes at None → height_at nodes from < height_at nodes at
  falls side from_is (t, h) = omega (arith, side_lower nodes at i n t h.placed.stands (opened_root t h) side, ap (height_at nodes) from_is)

  -- what holds of the node over the two sides holds of the tree
  pub of_root : (P : Avl K → Type 0) (t : Avl K) (h : Changing nodes at None t) → P (fork i n.entry.key n.entry.ticket (opened_root t h).a (opened_root t h).b) → P t
  of_root P t h p = subst P (sym (opened_root t h).is) p

-- each side of a node can change by itself
side_can : {K : Type 0} {nodes : List (Node K)} {i : ℕ} (n : Node K) {a b : Avl K} (side : Side) {from : Link} → from ≡ link_on side n → Siding nodes i n.left n.right a b → Changing nodes from None (on side a b)
side_can {nodes = nodes} n {a} {b} side is s = subst (λ l. Changing nodes l None (on side a b)) (sym is) (side_changing n s side None (nothing side))
  where
    nothing : (side : Side) → Spot nodes None (on side a b)
    nothing side = tt

pub changeable : {K : Type 0} {nodes : List (Node K)} {i : ℕ} (n : Node K) (side : Side) {from : Link} → from ≡ link_on side n → Sided nodes i n → Changeable nodes from None
changeable n side is (a, (b, s)) = (on side a b, side_can n side is s)

-- from `nodes` to `mid` the tree t lost a node, and what is left stands at `top`
record Lessened {K : Type 0} (nodes : List (Node K)) (t : Avl K) (mid : List (Node K)) (top : Link) (left : Avl K) : Type 0 where
  slot : ℕ
  one_more : OneMore slot (slots left) (slots t)
  reshaped : Reshaped nodes mid (slots t) top left
  no_higher : height left ≤ height t

-- a side of a node lost a node: the node can be put over both again, and in balance it is the whole tree without that one
module _ {K : Type 0} {nodes : List (Node K)} {i : ℕ} (n : Node K) {a b : Avl K} (s : Siding nodes i n.left n.right a b) (side : Side)
    {mid : List (Node K)} {top : Link} (kept : length mid ≡ length nodes) {u : Avl K} (l : Lessened nodes (on side a b) mid top u) where
  one_less : OneMore l.slot (slots (on side u a) ++ (i ∷ slots (on side b u))) (slots a ++ (i ∷ slots b))
  one_less = less_on i a b l.slot side u l.one_more

  side_low : (side : Side) → height (on side a b) ≤ 100
  side_low Left = s.joining.left_low
  side_low Right = s.joining.right_low

  lost_rejoins : Joining 250 mid i (on side top n.left) (on side n.right top) (on side u a) (on side b u)
  lost_rejoins = rejoins n s side kept l.reshaped (off_other n s side) (omega (arith, l.no_higher, side_low side)) (distinct_less l.slot _ _ one_less s.joining.distinct).1

  lost_settles : {after : List (Node K)} {at : Link} → Joins 250 balance mid i (with_link side top n) after at →
      Reshaped nodes after (slots a ++ (i ∷ slots b)) at (balance i n.entry.key n.entry.ticket (on side u a) (on side b u))
  lost_settles {after} {at} settled =
      both_steps nodes mid after (slots (on side a b)) _ (slots a ++ (i ∷ slots b)) top at u _ l.reshaped (settled _ _ lost_rejoins)
      (λ m apart. (apart_on i a b side m apart, all_without l.slot _ _ one_less (λ x. m ≡ x → ⊥) apart))

-- what taking the least pair out made of the tree t in slot j
record LeastOut {K : Type 0} (nodes mid : List (Node K)) (j : ℕ) (t : Avl K) (least : Cut (Entry K)) : Type 0 where
  q : K
  w : ℕ
  c : Avl K
  d : Avl K
  is : t ≡ fork j q w c d
  gone : LeastGone nodes j q w c d mid least

-- what is left of t
abbrev least_left : {K : Type 0} {nodes mid : List (Node K)} {j : ℕ} {t : Avl K} {least : Cut (Entry K)} → LeastOut nodes mid j t least → Avl K
least_left {j = j} l = without_least j l.q l.w l.c l.d

module _ {K : Type 0} {nodes mid : List (Node K)} {j : ℕ} {least : Cut (Entry K)} where
  -- a tree at a link to slot j is a node in that slot
  least_out : {at : Link} (t : Avl K) → Changing nodes at None t → at ≡ Some j → TakesTheLeast nodes j mid least → LeastOut nodes mid j t least
  least_out tip c is all = absurd cc
  least_out {at} (fork m q w a b) c is all =
      let here : m ≡ j = cc in
      record {
        q = q;
        w = w;
        c = a;
        d = b;
        is = ap (λ x. fork x q w a b) here;
        gone = all q w a b (subst (λ l. Changing nodes l None (fork j q w a b)) is (subst (λ x. Changing nodes at None (fork x q w a b)) here c));
      }

  -- the least slot is the first of the list, so it is the one that goes
  least_lessens : {t : Avl K} → Balanced t → (l : LeastOut nodes mid j t least) → Lessened nodes t mid least.top (least_left l)
  least_lessens balanced l =
      subst (λ u. Lessened nodes u mid least.top (least_left l)) (sym l.is) (record {
        slot = least_slot j l.q l.w l.c;
        one_more = record { front = []; back = slots (least_left l); without = refl; with_it = without_least_slots j l.q l.w l.c l.d };
        reshaped = l.gone.left;
        no_higher = (without_least_balanced j l.q l.w l.c l.d (subst Balanced l.is balanced)).high;
      })

-- what taking the least pair out of a tree answers and leaves; there is none in an absent tree
abbrev LeastGoneOf : {K : Type 0} → List (Node K) → List (Node K) → Cut (Entry K) → Avl K → Type 0
LeastGoneOf nodes after r tip = Unit {0}
LeastGoneOf nodes after r (fork i k v a b) = LeastGone nodes i k v a b after r

module _ {K : Type 0} {nodes : List (Node K)} {i : ℕ} {n : Node K} (r : Root nodes (Some i) i n) where
  -- where the left side is absent, the root is the least
  pub least_at_root : n.left ≡ None → TakesTheLeast nodes i nodes (record { out = n.entry; slot = i; top = n.right })
  least_at_root none k v a b h =
      let answer : Cut (Entry K) = record { out = n.entry; slot = i; top = n.right } in
      let o = opened_root r (fork i k v a b) h in
      of_root r (LeastGoneOf nodes nodes answer) (fork i k v a b) h
      (subst (λ u. LeastGone nodes i n.entry.key n.entry.ticket u o.b nodes answer) (sym (absent nodes n.left o.a o.left none))
      (record { out = refl; slot = refl; left = record { stands = o.right; frame = λ m apart. refl } }))

  -- else it is the least of the left side
  module _ {j : ℕ} (is : n.left ≡ Some j) {mid : List (Node K)} (kept : length mid ≡ length nodes) {least : Cut (Entry K)} (below : TakesTheLeast nodes j mid least) where
    left_least : (t : Avl K) (h : Changing nodes (Some i) None t) → LeastOut nodes mid j (opened_root r t h).a least
    left_least t h = least_out (opened_root r t h).a (side_can n Left refl (root_sides r t h)) is below

    left_lessens : (t : Avl K) (h : Changing nodes (Some i) None t) → Lessened nodes (opened_root r t h).a mid least.top (least_left (left_least t h))
    left_lessens t h = least_lessens (root_sides r t h).left_balanced (left_least t h)

    pub least_rejoins : Changeable nodes (Some i) None → Joinable 250 mid i (with_link Left least.top n)
    least_rejoins (t, h) = (least_left (left_least t h), ((opened_root r t h).b, lost_rejoins n (root_sides r t h) Left kept (left_lessens t h)))

    pub least_at_left : {after : List (Node K)} {cut : Cut (Entry K)} → (cut.out ≡ least.out) × (cut.slot ≡ least.slot) → Joins 250 balance mid i (with_link Left least.top n) after cut.top → TakesTheLeast nodes i after cut
    least_at_left {after} {cut} same settled k v a b h =
        let t : Avl K = fork i k v a b in
        let o = opened_root r t h in
        let l = left_least t h in
        let made = lost_settles n (root_sides r t h) Left kept (left_lessens t h) settled in
        of_root r (LeastGoneOf nodes after cut) t h
        (subst (λ u. LeastGone nodes i n.entry.key n.entry.ticket u o.b after cut) (sym l.is)
        (record {
          out = same.0 ∙ l.gone.out;
          slot = same.1 ∙ l.gone.slot;
          left = subst (λ u. Reshaped nodes after (slots u ++ (i ∷ slots o.b)) cut.top (balance i n.entry.key n.entry.ticket (least_left l) o.b)) l.is made;
        }))

-- a node with another pair, over the same sides
abbrev with_entry : {K : Type 0} → Node K → Entry K → Node K
with_entry n e = record { entry = e; left = n.left; right = n.right; height = n.height }

-- a node whose pair goes, with two sides: it gets the least pair of its right side
module _ {K : Type 0} {nodes : List (Node K)} {i : ℕ} (n : Node K) {m : ℕ} (is : n.right ≡ Some m) {mid : List (Node K)} (kept : length mid ≡ length nodes) {least : Cut (Entry K)} (below : TakesTheLeast nodes m mid least) where
  right_least : {a b : Avl K} → Siding nodes i n.left n.right a b → LeastOut nodes mid m b least
  right_least {b = b} s = least_out b (side_can n Right refl s) is below

  right_lessens : {a b : Avl K} (s : Siding nodes i n.left n.right a b) → Lessened nodes b mid least.top (least_left (right_least s))
  right_lessens s = least_lessens s.right_balanced (right_least s)

  pub least_replaces : Sided nodes i n → Joinable 250 mid i (with_link Right least.top (with_entry n least.out))
  least_replaces (a, (b, s)) = (a, (least_left (right_least s), lost_rejoins (with_entry n least.out) s Right kept (right_lessens s)))

  pub least_joins : {j : ℕ} → n.left ≡ Some j → {after : List (Node K)} {top : Link} → Joins 250 balance mid i (with_link Right least.top (with_entry n least.out)) after top →
      JoinsUp nodes i n after (record { out = n.entry.ticket; slot = least.slot; top = top })
  least_joins at settled tip b s = absurd (let z : ◌≡◌ {A = ℕ} 0 1 = cc (at, s.joining.left_stands.linked) in omega arith)
  least_joins at {after} {top} settled (fork p k v x y) b s =
      let l = right_least s in
      let made = lost_settles (with_entry n least.out) s Right kept (right_lessens s) settled in
      subst (λ u. JoinedUp nodes i n.entry.ticket (fork p k v x y) u after (record { out = n.entry.ticket; slot = least.slot; top = top })) (sym l.is)
      (record {
        out = refl;
        slot = l.gone.slot;
        left = subst (λ X. X) (λ z. Reshaped nodes after (slots (fork p k v x y) ++ (i ∷ slots (l.is z))) top (balance i (l.gone.out z).key (l.gone.out z).ticket (fork p k v x y) (least_left l))) made;
      })

-- a removal of s took a pair out of the tree t
record Went {K : Type 0} (order : K → K → Ordering) (s : K) (nodes : List (Node K)) (t : Avl K) (after : List (Node K)) (gone : Cut ℕ) : Type 0 where
  found : find order t s ≡ Some gone.out
  frees : freed order t s ≡ Some gone.slot
  reshaped : Reshaped nodes after (slots t) gone.top (remove order t s)

module _ {K : Type 0} (order : K → K → Ordering) (s : K) {nodes : List (Node K)} where
  -- what it answers tells whether it did
  went : (t : Avl K) (after : List (Node K)) (answer : Option (Cut ℕ)) (gone : Cut ℕ) → ShrunkBy order (find order t s) nodes t s after answer → answer ≡ Some gone → Went order s nodes t after gone
  went t after answer gone h is = by (find order t s) refl h
    where
      by : (w : Option ℕ) → find order t s ≡ w → ShrunkBy order w nodes t s after answer → Went order s nodes t after gone
      by None e h = absurd (let z : ◌≡◌ {A = ℕ} 0 1 = cc (h.0, is) in omega arith)
      by (Some held) e h =
          let same : h.0 ≡ gone = cc (h.1.0, is) in
          subst (Went order s nodes t after) same (record { found = e ∙ ap Some (sym h.1.1); frees = h.1.2; reshaped = h.1.3 })

  stayed : (t : Avl K) (after : List (Node K)) (answer : Option (Cut ℕ)) → ShrunkBy order (find order t s) nodes t s after answer → answer ≡ None → (find order t s ≡ None) × (after ≡ nodes)
  stayed t after answer h is = by (find order t s) h
    where
      by : (w : Option ℕ) → ShrunkBy order w nodes t s after answer → (w ≡ None) × (after ≡ nodes)
      by None h = (refl, h.1)
      by (Some held) h = absurd (let z : ◌≡◌ {A = ℕ} 0 1 = cc (h.1.0, is) in omega arith)

  -- and the other way round
  removed : (t : Avl K) (after : List (Node K)) (gone : Cut ℕ) (comparisons : ℕ) → comparisons ≡ path false order t s → Went order s nodes t after gone → Removed order nodes t s after (record { answer = Some gone; comparisons = comparisons })
  removed t after gone comparisons count w =
      record { comparisons = count; outcome = subst (λ r. ShrunkBy order r nodes t s after (Some gone)) (sym w.found) (gone, (refl, refl, w.frees, w.reshaped)) }

-- from t the way of s goes down to a side, which is u
record Way {K : Type 0} (order : K → K → Ordering) (s : K) (nodes : List (Node K)) (from : Link) (t : Avl K) : Type 0 where
  u : Avl K
  changing : Changing nodes from None u
  paths : path false order t s ≡ suc (path false order u s)
  finds : find order t s ≡ find order u s
  frees : freed order t s ≡ freed order u s

module _ {K : Type 0} {order : K → K → Ordering} {s : K} {nodes : List (Node K)} {at : Link} {i : ℕ} {n : Node K} (r : Root nodes at i n) where
  -- it goes to the side that the key is on: what a removal there answers, of any tree that stands here
  module _ (side : Side) {from : Link} (from_is : from ≡ link_on side n) where
    module _ {mid : List (Node K)} {below : Counted (Option (Cut ℕ))} (done : Removes order nodes from s mid below) where
      pub side_few : Changeable nodes at None → below.comparisons ≤ 100
      side_few (t, h) =
          let c = side_can n side from_is (root_sides r t h) in
          let u = on side (opened_root r t h).a (opened_root r t h).b in
          omega (arith, path_low false order s u, (done u c).comparisons, c.placed.low)

      module _ (here : side_of (order s n.entry.key) ≡ Some side) where
        abbrev way : (t : Avl K) → Changing nodes at None t → Way order s nodes from t
        way t h =
            let o = opened_root r t h in
            record {
              u = on side o.a o.b;
              changing = side_can n side from_is (root_sides r t h);
              paths = ap (λ x. path false order x s) o.is ∙ ap suc (by_side (order s n.entry.key) side (λ d. path false order (on d o.a o.b) s) 0 here);
              finds = ap (λ x. find order x s) o.is ∙ by_side (order s n.entry.key) side (λ d. find order (on d o.a o.b) s) (Some n.entry.ticket) here;
              frees = ap (λ x. freed order x s) o.is ∙ by_side (order s n.entry.key) side (λ d. freed order (on d o.a o.b) s) _ here;
            }

        pub stays_on : below.answer ≡ None → Removes order nodes at s mid (record { answer = None; comparisons = below.comparisons + 1 })
        stays_on none t h =
            let w = way t h in
            let r = done w.u w.changing in
            let e = stayed order s w.u mid below.answer r.outcome none in
            record { comparisons = omega (arith, r.comparisons, w.paths); outcome = subst (λ x. ShrunkBy order x nodes t s mid None) (sym (w.finds ∙ e.0)) (refl, e.1) }

        -- a pair went from the side, and the root is put over it again
        module _ (kept : length mid ≡ length nodes) {cut : Cut ℕ} (some : below.answer ≡ Some cut) where
          side_went : (t : Avl K) (h : Changing nodes at None t) → Went order s nodes (way t h).u mid cut
          side_went t h = went order s (way t h).u mid below.answer cut (done (way t h).u (way t h).changing).outcome some

          side_lessens : (t : Avl K) (h : Changing nodes at None t) → Lessened nodes (way t h).u mid cut.top (remove order (way t h).u s)
          side_lessens t h =
              let w = side_went t h in
              record { slot = cut.slot; one_more = remove_slots order s (way t h).u cut.slot w.frees; reshaped = w.reshaped; no_higher = (remove_balanced order (way t h).u s (way t h).changing.balanced).high }

          pub removal_rejoins : Changeable nodes at None → Joinable 250 mid i (with_link side cut.top n)
          removal_rejoins (t, h) = (_, (_, lost_rejoins n (root_sides r t h) side kept (side_lessens t h)))

          pub removal_settles : {after : List (Node K)} {closed : Cut ℕ} → (closed.out ≡ cut.out) × (closed.slot ≡ cut.slot) → Joins 250 balance mid i (with_link side cut.top n) after closed.top →
              Removes order nodes at s after (record { answer = Some closed; comparisons = below.comparisons + 1 })
          removal_settles {after} {closed} same settled t h =
              let o = opened_root r t h in
              let w = way t h in
              let gone = side_went t h in
              let whole : Avl K = balance i n.entry.key n.entry.ticket (on side (remove order w.u s) o.a) (on side o.b (remove order w.u s)) in
              let is : remove order t s ≡ whole =
              ap (λ x. remove order x s) o.is
              ∙ by_side (order s n.entry.key) side (λ d. balance i n.entry.key n.entry.ticket (on d (remove order (on d o.a o.b) s) o.a) (on d o.b (remove order (on d o.a o.b) s))) _ here in
              removed order s t after closed (below.comparisons + 1) (omega (arith, (done w.u w.changing).comparisons, w.paths))
              (record {
                found = w.finds ∙ gone.found ∙ ap Some (sym same.0);
                frees = w.frees ∙ gone.frees ∙ ap Some (sym same.1);
                reshaped = subst (Reshaped nodes after (slots t) closed.top) (sym is)
                    (subst (λ l. Reshaped nodes after l closed.top whole) (sym (ap slots o.is)) (lost_settles n (root_sides r t h) side kept (side_lessens t h) settled));
              })

  -- the root's pair goes
  pub root_goes : side_of (order s n.entry.key) ≡ None → {after : List (Node K)} {cut : Cut ℕ} → JoinsUp nodes i n after cut → Removes order nodes at s after (record { answer = Some cut; comparisons = 1 })
  root_goes here {after} {cut} joins t h =
      let equal = same_key (order s n.entry.key) here in
      let o = opened_root r t h in
      let j = joins o.a o.b (root_sides r t h) in
      of_root r (λ x. Removed order nodes x s after (record { answer = Some cut; comparisons = 1 })) t h
      (removed order s (fork i n.entry.key n.entry.ticket o.a o.b) after cut 1 (sym (ap suc (picks _ _ _ equal)))
      (record {
        found = picks _ _ _ equal ∙ ap Some (sym j.out);
        frees = picks _ _ _ equal ∙ ap Some (sym j.slot);
        reshaped = subst (Reshaped nodes after (slots o.a ++ (i ∷ slots o.b)) cut.top) (sym (picks _ _ _ equal)) j.left;
      }))
