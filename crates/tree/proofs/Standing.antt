-- Trees that stand in node memory: what a node that is read tells of them, and what keeps them standing.
use Rattle.std.proofs.Common.{◌≡◌, ℕ, zero, suc, ◌<◌, List, [], ◌∷◌, length, get_or, set, Some, sym, refl, ap, ◌∙◌, subst, arith, None}
use Rattle.std.specs.List.{slice_get, AllByRecursion}
use Rattle.std.proofs.lemmas.Option.{slice_get_read, slice_get_within}
use Rattle.digits.proofs.Every.{all_weaker, all_left, all_right}
use Rattle.avl.specs.Avl.{Avl, tip, fork, height, slots}
use Rattle.avl.specs.Model.{Apart}
use Rattle.avl.proofs.Inorder.{never}
use Rattle.tree.specs.Links.{Link}
use Rattle.tree.specs.declared.nodes.Node.{Node}
use Rattle.tree.specs.declared.nodes.Side.{Side}
use Rattle.tree.specs.declared.nodes.Side.TheVariants.{Left, Right}
use Rattle.tree.specs.Sides.{link_on}
use Rattle.tree.specs.Standing.{link_of, node_of, Lies, Stands, told_height, height_at, Reaches}

-- reads and writes of a list

pub nth_set_same : {X : Type 0} (xs : List X) (i : ℕ) (x : X) → i < length xs → slice_get (set xs i x) i ≡ Some x
nth_set_same [] i x h = absurd (omega arith)
nth_set_same (y ∷ xs) zero x h = refl
nth_set_same (y ∷ xs) (suc i) x h = nth_set_same xs i x (omega arith)

pub nth_set_other : {X : Type 0} (xs : List X) (i j : ℕ) (x : X) → (j ≡ i → ⊥) → slice_get (set xs i x) j ≡ slice_get xs j
nth_set_other [] i j x h = refl
nth_set_other (y ∷ xs) zero zero x h = absurd (h refl)
nth_set_other (y ∷ xs) zero (suc j) x h = refl
nth_set_other (y ∷ xs) (suc i) zero x h = refl
nth_set_other (y ∷ xs) (suc i) (suc j) x h = nth_set_other xs i j x (λ e. h (ap suc e))

-- what is known of a tree once its root's node is read
pub record Opened {K : Type 0} (nodes : List (Node K)) (i : ℕ) (n : Node K) (t : Avl K) : Type 0 where
  pub a : Avl K
  pub b : Avl K
  pub is : t ≡ fork i n.entry.key n.entry.ticket a b
  pub left : Stands nodes n.left a
  pub right : Stands nodes n.right b
  pub told : n.height ≡ height t

module _ {K : Type 0} where
  opens : (nodes : List (Node K)) (i : ℕ) (n : Node K) (t : Avl K) → Lies nodes t → Some i ≡ link_of t → slice_get nodes i ≡ Some n → Opened nodes i n t
  opens nodes i n tip h at read = never at
  opens nodes i n (fork j k v a b) h at read =
      let here : i ≡ j = cc in
      let same : n ≡ node_of k v a b = cc h.0 in
      record {
        a = a;
        b = b;
        is = ap (λ m. fork m k v a b) (sym here) ∙ sym (ap (λ (m : Node K). fork i m.entry.key m.entry.ticket a b) same);
        left = record { lies = h.1; linked = ap (λ (m : Node K). m.left) same };
        right = record { lies = h.2; linked = ap (λ (m : Node K). m.right) same };
        told = ap (λ (m : Node K). m.height) same;
      }

  pub opened : (nodes : List (Node K)) (at : Link) (i : ℕ) (n : Node K) (t : Avl K) → Stands nodes at t → at ≡ Some i → slice_get nodes i ≡ Some n → Opened nodes i n t
  opened nodes at i n t s is read = opens nodes i n t s.lies (sym is ∙ s.linked) read

  -- the same of an element that the code has read
  root_below : (nodes : List (Node K)) (i : ℕ) (t : Avl K) → Lies nodes t → Some i ≡ link_of t → i < length nodes
  root_below nodes i tip h at = never at
  root_below nodes i (fork j k v a b) h at = let here : i ≡ j = cc in subst (λ m. m < length nodes) (sym here) (slice_get_within nodes j _ h.0)

  pub leads_inside : (nodes : List (Node K)) (at : Link) (i : ℕ) (t : Avl K) → Stands nodes at t → at ≡ Some i → i < length nodes
  leads_inside nodes at i t s is = root_below nodes i t s.lies (sym is ∙ s.linked)

  pub reads : (nodes : List (Node K)) (at : Link) (i : ℕ) (n : Node K) (t : Avl K) → Stands nodes at t → at ≡ Some i → n ≡ get_or nodes i n → Opened nodes i n t
  reads nodes at i n t s is read = opened nodes at i n t s is (slice_get_read nodes (length nodes) i n refl (leads_inside nodes at i t s is) read)

  -- a link to nothing has no tree
  pub absent : (nodes : List (Node K)) (at : Link) (t : Avl K) → Stands nodes at t → at ≡ None → t ≡ tip
  absent nodes at tip s is = refl
  absent nodes at (fork i k v a b) s is = never (sym s.linked ∙ is)

  reaches_root : (nodes : List (Node K)) (t : Avl K) → Lies nodes t → Reaches nodes (link_of t)
  reaches_root nodes tip h = tt
  reaches_root nodes (fork i k v a b) h = slice_get_within nodes i _ h.0

  pub reaches : (nodes : List (Node K)) (at : Link) (t : Avl K) → Stands nodes at t → Reaches nodes at
  reaches nodes at t s = subst (Reaches nodes) (sym s.linked) (reaches_root nodes t s.lies)

  told_of_root : (nodes : List (Node K)) (t : Avl K) → Lies nodes t → height_at nodes (link_of t) ≡ height t
  told_of_root nodes tip h = refl
  told_of_root nodes (fork i k v a b) h = ap told_height h.0

  -- what the nodes tell of heights is true
  pub told_truly : (nodes : List (Node K)) (at : Link) (t : Avl K) → Stands nodes at t → height_at nodes at ≡ height t
  told_truly nodes at t s = ap (height_at nodes) s.linked ∙ told_of_root nodes t s.lies

  -- a side of a node that was read is lower than it
  pub side_lower : (nodes : List (Node K)) (at : Link) (i : ℕ) (n : Node K) (t : Avl K) → Stands nodes at t → Opened nodes i n t → (side : Side) → height_at nodes (link_on side n) < height_at nodes at
  side_lower nodes at i n t s o side = by side
    where
      here : height_at nodes at ≡ height (fork i n.entry.key n.entry.ticket o.a o.b)
      here = told_truly nodes at t s ∙ ap height o.is

      by : (side : Side) → height_at nodes (link_on side n) < height_at nodes at
      by Left = let part = told_truly nodes n.left o.a o.left in omega (arith, here)
      by Right = let part = told_truly nodes n.right o.b o.right in omega (arith, here)

  -- a tree whose slots did not change stands as it stood
  lies_still : (nodes after : List (Node K)) (t : Avl K) → AllByRecursion (λ j. slice_get after j ≡ slice_get nodes j) (slots t) → Lies nodes t → Lies after t
  lies_still nodes after tip f h = tt
  lies_still nodes after (fork i k v a b) f h =
      let Same : ℕ → Type 0 = λ j. slice_get after j ≡ slice_get nodes j in
      let at_root = all_right Same (slots a) (i ∷ slots b) f in
      (at_root.0 ∙ h.0, lies_still nodes after a (all_left Same (slots a) (i ∷ slots b) f) h.1, lies_still nodes after b at_root.1 h.2)

  pub stands_still : (nodes after : List (Node K)) (at : Link) (t : Avl K) → AllByRecursion (λ j. slice_get after j ≡ slice_get nodes j) (slots t) → Stands nodes at t → Stands after at t
  stands_still nodes after at t f s = record { lies = lies_still nodes after t f s.lies; linked = s.linked }

  -- so does a tree apart from all slots that changed
  pub stands_apart : (nodes after : List (Node K)) (used : List ℕ) (at : Link) (t : Avl K) → ((j : ℕ) → Apart j used → slice_get after j ≡ slice_get nodes j) → AllByRecursion (λ j. Apart j used) (slots t) → Stands nodes at t → Stands after at t
  stands_apart nodes after used at t frame apart s = stands_still nodes after at t (all_weaker (λ j. Apart j used) (λ j. slice_get after j ≡ slice_get nodes j) frame (slots t) apart) s
