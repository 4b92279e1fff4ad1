-- The way down from the root: what is known on it, and what each turn makes of that.
use Rattle.std.proofs.Common.{◌≡◌, ℕ, suc, ◌+◌, ◌<◌, ◌≤◌, Bool, true, false, cond, List, get_or, Some, None, Option, Ordering, Less, Equal, Greater, sym, refl, ap, ◌∙◌, subst, arith}
use Rattle.std.proofs.lemmas.Bool.{cond-true, cond-false}
use Rattle.std.specs.Option.{option_or}
use Rattle.books.specs.declared.entries.Entry.{Entry}
use Rattle.books.specs.Plain.{by_order}
use Rattle.avl.specs.Avl.{Avl, fork, height, find, or_else, seek, path}
use Rattle.avl.proofs.Height.{path_low}
use Rattle.tree.specs.Links.{Link}
use Rattle.tree.specs.declared.nodes.Node.{Node}
use Rattle.tree.specs.Descents.{FoundIn, SoughtIn}
use Rattle.tree.specs.declared.nodes.Side.{Side}
use Rattle.tree.specs.Sides.{link_on}
use Rattle.tree.specs.Standing.{Stands, height_at}
use Rattle.tree.proofs.Standing.{Opened, reads, absent, side_lower}

-- a way down has come to a tree of which something is known, and the comparisons made and those to come are those of t
pub record Walk {K : Type 0} (after : Bool) (order : K → K → Ordering) (nodes : List (Node K)) (s : K) (t : Avl K) (Known : Avl K → Type 0) (at : Link) (comparisons : ℕ) : Type 0 where
  pub rest : Avl K
  pub stands : Stands nodes at rest
  pub known : Known rest
  pub count : comparisons + path after order rest s ≡ path after order t s

-- the same where the root of that tree was read, with which s compares so
record WalkAt {K : Type 0} (after : Bool) (order : K → K → Ordering) (nodes : List (Node K)) (s : K) (t : Avl K) (Known : Avl K → Type 0) (i : ℕ) (n : Node K) (comparisons : ℕ) (c : Ordering) : Type 0 where
  a : Avl K
  b : Avl K
  left : Stands nodes n.left a
  right : Stands nodes n.right b
  known : Known (fork i n.entry.key n.entry.ticket a b)
  count : comparisons + suc (by_order c (path after order a s) (cond after (path after order b s) 0) (path after order b s)) ≡ path after order t s

-- one of three, where it is known how the keys compare
pub picks : {X : Type 0} {w c : Ordering} (x y z : X) → c ≡ w → by_order w x y z ≡ by_order c x y z
picks x y z e = ap (λ w. by_order w x y z) (sym e)

module _ {K : Type 0} {after : Bool} {order : K → K → Ordering} {nodes : List (Node K)} {s : K} {t : Avl K} {Known : Avl K → Type 0} {at : Link} {comparisons : ℕ} (w : Walk after order nodes s t Known at comparisons) where
  pub few_comparisons : height t ≤ 250 → comparisons ≤ 250
  few_comparisons limit = let low = path_low after order s t in omega (arith, w.count)

  module _ {i : ℕ} {n : Node K} (is : at ≡ Some i) (read : n ≡ get_or nodes i n) where
    walk_reads : Opened nodes i n w.rest
    walk_reads = reads nodes at i n w.rest w.stands is read

    pub walk_falls : (side : Side) → height_at nodes (link_on side n) < height_at nodes at
    walk_falls = side_lower nodes at i n w.rest w.stands walk_reads

    walk_at : {c : Ordering} → c ≡ order s n.entry.key → WalkAt after order nodes s t Known i n comparisons c
    walk_at e =
        let o = walk_reads in
        let p = picks (path after order o.a s) (cond after (path after order o.b s) 0) (path after order o.b s) e in
        record {
          a = o.a;
          b = o.b;
          left = o.left;
          right = o.right;
          known = subst Known o.is w.known;
          count = let here = subst (λ u. comparisons + path after order u s ≡ path after order t s) o.is w.count in omega arith;
        }

or_kept : {X : Type 0} (o kept : Option X) (x : X) → option_or (or_else o x) kept ≡ option_or o (Some x)
or_kept None kept x = refl
or_kept (Some y) kept x = refl

-- a find: what is left to find is what a find from the root answers
abbrev pub FindsOn : {K : Type 0} → (K → K → Ordering) → List (Node K) → K → Avl K → Link → ℕ → Type 0
FindsOn order nodes s t = Walk false order nodes s t (λ u. find order u s ≡ find order t s)

-- a seek: it answers what is sought further down, or else the latest pair above s
abbrev pub SeeksOn : {K : Type 0} → Bool → (K → K → Ordering) → List (Node K) → K → Option (Entry K) → Avl K → Link → ℕ → Type 0
SeeksOn after order nodes s kept t = Walk after order nodes s t (λ u. option_or (seek after order u s) kept ≡ seek after order t s)

module _ {K : Type 0} {order : K → K → Ordering} {nodes : List (Node K)} {s : K} {t : Avl K} where
  module _ {at : Link} {comparisons : ℕ} (w : FindsOn order nodes s t at comparisons) where
    pub find_ends : at ≡ None → FoundIn order t s (record { answer = None; comparisons = comparisons })
    find_ends is =
        let e = absent nodes at w.rest w.stands is in
        record {
          answer = subst (λ u. find order u s ≡ find order t s) e w.known;
          comparisons = let c = subst (λ u. comparisons + path false order u s ≡ path false order t s) e w.count in omega arith;
        }

    module _ {i : ℕ} {n : Node K} (is : at ≡ Some i) (read : n ≡ get_or nodes i n) where
      pub find_goes_left : Less ≡ order s n.entry.key → FindsOn order nodes s t n.left (comparisons + 1)
      find_goes_left e = let o = walk_at w is read e in record { rest = o.a; stands = o.left; known = sym (picks _ _ _ e) ∙ o.known; count = omega (arith, o.count) }

      pub find_goes_right : Greater ≡ order s n.entry.key → FindsOn order nodes s t n.right (comparisons + 1)
      find_goes_right e = let o = walk_at w is read e in record { rest = o.b; stands = o.right; known = sym (picks _ _ _ e) ∙ o.known; count = omega (arith, o.count) }

      pub find_meets : Equal ≡ order s n.entry.key → FoundIn order t s (record { answer = Some n.entry.ticket; comparisons = comparisons + 1 })
      find_meets e = let o = walk_at w is read e in record { answer = sym (picks _ _ _ e) ∙ o.known; comparisons = omega (arith, o.count) }

  module _ {after : Bool} where
    module _ {at : Link} {comparisons : ℕ} (kept : Option (Entry K)) (w : SeeksOn after order nodes s kept t at comparisons) where
      pub seek_ends : at ≡ None → SoughtIn after order t s (record { answer = kept; comparisons = comparisons })
      seek_ends is =
          let e = absent nodes at w.rest w.stands is in
          record {
            answer = subst (λ u. option_or (seek after order u s) kept ≡ seek after order t s) e w.known;
            comparisons = let c = subst (λ u. comparisons + path after order u s ≡ path after order t s) e w.count in omega arith;
          }

      module _ {i : ℕ} {n : Node K} (is : at ≡ Some i) (read : n ≡ get_or nodes i n) where
        pub seek_goes_left : Less ≡ order s n.entry.key → SeeksOn after order nodes s (Some n.entry) t n.left (comparisons + 1)
        seek_goes_left e =
            let o = walk_at w is read e in
            let here = or_kept (seek after order o.a s) kept n.entry in
            record { rest = o.a; stands = o.left; known = sym (ap (λ r. option_or r kept) (picks _ _ _ e) ∙ here) ∙ o.known; count = omega (arith, o.count) }

        pub seek_goes_right : Greater ≡ order s n.entry.key → SeeksOn after order nodes s kept t n.right (comparisons + 1)
        seek_goes_right e =
            let o = walk_at w is read e in
            record { rest = o.b; stands = o.right; known = sym (ap (λ r. option_or r kept) (picks _ _ _ e)) ∙ o.known; count = omega (arith, o.count) }

        pub seek_passes : Equal ≡ order s n.entry.key → after ≡ true → SeeksOn after order nodes s kept t n.right (comparisons + 1)
        seek_passes e on =
            let o = walk_at w is read e in
            let onward = cond-true after (path after order o.b s) 0 on in
            record { rest = o.b; stands = o.right; known = sym (ap (λ r. option_or r kept) (picks _ _ _ e ∙ cond-true after _ _ on)) ∙ o.known; count = omega (arith, o.count) }

        pub seek_meets : Equal ≡ order s n.entry.key → after ≡ false → SoughtIn after order t s (record { answer = Some n.entry; comparisons = comparisons + 1 })
        seek_meets e off =
            let o = walk_at w is read e in
            let done = cond-false after (path after order o.b s) 0 off in
            record { answer = sym (ap (λ r. option_or r kept) (picks _ _ _ e ∙ cond-false after _ _ off)) ∙ o.known; comparisons = omega (arith, o.count) }
