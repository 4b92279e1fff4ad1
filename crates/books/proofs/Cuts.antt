-- The plain calls on a list in two parts: what stands before the key asked for is passed over, what stands past it is not looked at.
use Rattle.std.proofs.Common.{◌≡◌, ℕ, suc, Bool, true, false, cond, List, [], ◌∷◌, ◌++◌, map, length, Some, None, Option, Ordering, Less, Equal, Greater, sym, refl, ap, ◌∙◌, subst, append_assoc, arith, length-append}
use mathlib.Core.List.{map-append}
use Rattle.std.specs.List.{AllByRecursion, Contains}
use Rattle.std.proofs.lemmas.List.Elements.{recursion_from_All, Contains-append_right}
use Rattle.digits.proofs.Every.{all_left, all_right, all_append}
use Rattle.std.specs.Option.{option_or}
use Rattle.std.specs.Ordering.{ordering_reverse}
use Rattle.books.specs.declared.entries.Entry.{Entry}
use Rattle.books.specs.Plain.{by_order, entry, look, put, take_out, passes, first}
use Rattle.books.specs.Meaning.{known, Before, Ascending, GoodOrder, OneMore}

-- one x more, at a place, in the left part, in the right part, past a head, and each element shown by f
module _ {X : Type 0} (x : X) where
  pub more_here : (xs ys : List X) → OneMore x (xs ++ ys) (xs ++ (x ∷ ys))
  more_here xs ys = record { front = xs; back = ys; without = refl; with_it = refl }

  pub more_left : (xs xs' ys : List X) → OneMore x xs xs' → OneMore x (xs ++ ys) (xs' ++ ys)
  more_left xs xs' ys m = record {
    front = m.front;
    back = m.back ++ ys;
    without = ap (λ l. l ++ ys) m.without ∙ append_assoc m.front m.back ys;
    with_it = ap (λ l. l ++ ys) m.with_it ∙ append_assoc m.front (x ∷ m.back) ys;
  }

  pub more_right : (xs ys ys' : List X) → OneMore x ys ys' → OneMore x (xs ++ ys) (xs ++ ys')
  more_right xs ys ys' m = record {
    front = xs ++ m.front;
    back = m.back;
    without = ap (λ l. xs ++ l) m.without ∙ sym (append_assoc xs m.front m.back);
    with_it = ap (λ l. xs ++ l) m.with_it ∙ sym (append_assoc xs m.front (x ∷ m.back));
  }

  pub more_cons : (y : X) (ys ys' : List X) → OneMore x ys ys' → OneMore x (y ∷ ys) (y ∷ ys')
  more_cons y ys ys' m = record { front = y ∷ m.front; back = m.back; without = ap (λ l. y ∷ l) m.without; with_it = ap (λ l. y ∷ l) m.with_it }

  pub more_map : {Y : Type 0} (f : X → Y) (xs ys : List X) → OneMore x xs ys → OneMore (f x) (map f xs) (map f ys)
  more_map f xs ys m = record {
    front = map f m.front;
    back = map f m.back;
    without = ap (map f) m.without ∙ map-append f m.front m.back;
    with_it = ap (map f) m.with_it ∙ map-append f m.front (x ∷ m.back);
  }

-- a list with one x more has an x, is longer by one, and what holds of each of its elements holds of x and of each other
module _ {X : Type 0} (x : X) (fewer more : List X) (m : OneMore x fewer more) where
  pub more_length : length more ≡ suc (length fewer)
  more_length =
      let a = ap length m.without ∙ length-append m.front m.back in
      let b = ap length m.with_it ∙ length-append m.front (x ∷ m.back) in
      omega arith

  pub more_has : Contains more x
  more_has = subst (λ l. Contains l x) (sym m.with_it) (Contains-append_right m.front (x ∷ m.back) x (0, omega arith, refl))

  pub all_with : (P : X → Type 0) → P x → AllByRecursion P fewer → AllByRecursion P more
  all_with P p q =
      let r = subst (AllByRecursion P) m.without q in
      subst (AllByRecursion P) (sym m.with_it) (all_append P m.front (x ∷ m.back) (all_left P m.front m.back r) (p, all_right P m.front m.back r))

  pub all_without : (P : X → Type 0) → AllByRecursion P more → AllByRecursion P fewer
  all_without P q =
      let r = subst (AllByRecursion P) m.with_it q in
      subst (AllByRecursion P) (sym m.without) (all_append P m.front m.back (all_left P m.front (x ∷ m.back) r) (all_right P m.front (x ∷ m.back) r).1)

-- pairs that are shown alike are the same
pub known_same : {K : Type 0} (xs ys : List (Entry K)) → map known xs ≡ map known ys → xs ≡ ys
known_same [] [] e = refl
known_same [] (y ∷ ys) e = cc
known_same (x ∷ xs) [] e = cc
known_same {K} (x ∷ xs) (y ∷ ys) e =
    let shown : ◌≡◌ {A = Option K × ℕ} (known x) (known y) = cc in
    let some : Some x.key ≡ Some y.key = ap (λ p. p.0) shown in
    let key : x.key ≡ y.key = cc in
    let ticket : x.ticket ≡ y.ticket = ap (λ p. p.1) shown in
    let here : x ≡ y = λ i. record { key = key i; ticket = ticket i } in
    let rest : map known xs ≡ map known ys = cc in
    let later = known_same xs ys rest in
    cc

-- one of three, each of which has P
pub by_all : {X : Type 0} (P : X → Type 0) (w : Ordering) {x y z : X} → P x → P y → P z → P (by_order w x y z)
by_all P Less a b c = a
by_all P Equal a b c = b
by_all P Greater a b c = c

-- s compares so with each key
abbrev pub Compares : {K : Type 0} → (K → K → Ordering) → K → Ordering → List (Entry K) → Type 0
Compares order s w es = AllByRecursion (λ e. order s e.key ≡ w) es

-- past the first key that s is not greater than, s is less than all
abbrev pub Cut : {K : Type 0} → (K → K → Ordering) → K → List (Entry K) → Type 0
Cut order s [] = Unit {0}
Cut order s (e ∷ es) = ((order s e.key ≡ Greater → ⊥) → Compares order s Less es) × Cut order s es

pub not_greater_less : {w : Ordering} → w ≡ Less → w ≡ Greater → ⊥
not_greater_less p q = cc

pub not_greater_equal : {w : Ordering} → w ≡ Equal → w ≡ Greater → ⊥
not_greater_equal p q = cc

pub not_less_equal : {w : Ordering} → w ≡ Equal → w ≡ Less → ⊥
not_less_equal p q = cc

greater_left : (w : Ordering) → (w ≡ Less → ⊥) → (w ≡ Equal → ⊥) → w ≡ Greater
greater_left Less p q = absurd (p refl)
greater_left Equal p q = absurd (q refl)
greater_left Greater p q = refl

module _ {K : Type 0} (order : K → K → Ordering) (s : K) where
  -- keys that s is greater than are passed over
  pub look_skip : (xs zs : List (Entry K)) → Compares order s Greater xs → look order (xs ++ zs) s ≡ look order zs s
  look_skip [] zs p = refl
  look_skip (x ∷ xs) zs p = let h = p.0 in let e = look_skip xs zs p.1 in cc

  pub put_skip : (v : ℕ) (xs zs : List (Entry K)) → Compares order s Greater xs → put order (xs ++ zs) s v ≡ xs ++ put order zs s v
  put_skip v [] zs p = refl
  put_skip v (x ∷ xs) zs p = let h = p.0 in let e = put_skip v xs zs p.1 in cc

  pub out_skip : (xs zs : List (Entry K)) → Compares order s Greater xs → take_out order (xs ++ zs) s ≡ xs ++ take_out order zs s
  out_skip [] zs p = refl
  out_skip (x ∷ xs) zs p = let h = p.0 in let e = out_skip xs zs p.1 in cc

  pub first_skip : (after : Bool) (xs zs : List (Entry K)) → Compares order s Greater xs → first after order (xs ++ zs) s ≡ first after order zs s
  first_skip after [] zs p = refl
  first_skip after (x ∷ xs) zs p = let h = p.0 in let e = first_skip after xs zs p.1 in cc

  -- keys that s is less than are not looked at
  pub look_none : (zs : List (Entry K)) → Compares order s Less zs → look order zs s ≡ None
  look_none [] p = refl
  look_none (z ∷ zs) p = let h = p.0 in let e = look_none zs p.1 in cc

  pub look_stop : (xs zs : List (Entry K)) → Compares order s Less zs → look order (xs ++ zs) s ≡ look order xs s
  look_stop [] zs p = look_none zs p
  look_stop (x ∷ xs) zs p = ap (λ r. by_order (order s x.key) r (Some x.ticket) r) (look_stop xs zs p)

  pub put_stop : (v : ℕ) (xs : List (Entry K)) (x : Entry K) (zs : List (Entry K)) → order s x.key ≡ Less → put order (xs ++ (x ∷ zs)) s v ≡ put order xs s v ++ (x ∷ zs)
  put_stop v [] x zs h = cc
  put_stop v (y ∷ xs) x zs h = by (order s y.key) (put_stop v xs x zs h)
    where
      by : (w : Ordering) → put order (xs ++ (x ∷ zs)) s v ≡ put order xs s v ++ (x ∷ zs) →
          by_order w (entry s v ∷ (y ∷ (xs ++ (x ∷ zs)))) (y ∷ (xs ++ (x ∷ zs))) (y ∷ put order (xs ++ (x ∷ zs)) s v) ≡ by_order w (entry s v ∷ (y ∷ xs)) (y ∷ xs) (y ∷ put order xs s v) ++ (x ∷ zs)
      by Less e = refl
      by Equal e = refl
      by Greater e = ap (λ l. y ∷ l) e

  pub out_none : (zs : List (Entry K)) → Compares order s Less zs → take_out order zs s ≡ zs
  out_none [] p = refl
  out_none (z ∷ zs) p = let h = p.0 in let e = out_none zs p.1 in cc

  pub out_stop : (xs zs : List (Entry K)) → Compares order s Less zs → take_out order (xs ++ zs) s ≡ take_out order xs s ++ zs
  out_stop [] zs p = out_none zs p
  out_stop (x ∷ xs) zs p = by (order s x.key) (out_stop xs zs p)
    where
      by : (w : Ordering) → take_out order (xs ++ zs) s ≡ take_out order xs s ++ zs →
          by_order w (x ∷ take_out order (xs ++ zs) s) (xs ++ zs) (x ∷ take_out order (xs ++ zs) s) ≡ by_order w (x ∷ take_out order xs s) xs (x ∷ take_out order xs s) ++ zs
      by Less e = ap (λ l. x ∷ l) e
      by Equal e = refl
      by Greater e = ap (λ l. x ∷ l) e

  -- the first pair of two lists in a row is the first of the left one, or else that of the right one
  pub first_append : (after : Bool) (xs zs : List (Entry K)) → first after order (xs ++ zs) s ≡ option_or (first after order xs s) (first after order zs s)
  first_append after [] zs = refl
  first_append after (x ∷ xs) zs = by (passes after (order s x.key)) (first_append after xs zs)
    where
      by : (t : Bool) → first after order (xs ++ zs) s ≡ option_or (first after order xs s) (first after order zs s) →
          cond t (first after order (xs ++ zs) s) (Some x) ≡ option_or (cond t (first after order xs s) (Some x)) (first after order zs s)
      by true e = e
      by false e = refl

  -- a list with x in the middle, cut by s: each part is, and x says on which side of s a whole part lies
  pub record Parted (xs : List (Entry K)) (x : Entry K) (ys : List (Entry K)) : Type 0 where
    pub left : Cut order s xs
    pub right : Cut order s ys
    pub below : (order s x.key ≡ Less → ⊥) → Compares order s Greater xs
    pub above : (order s x.key ≡ Greater → ⊥) → Compares order s Less ys

  pub parted : (xs : List (Entry K)) (x : Entry K) (ys : List (Entry K)) → Cut order s (xs ++ (x ∷ ys)) → Parted xs x ys
  parted [] x ys c = record { left = tt; right = c.1; below = λ _. tt; above = c.0 }
  parted (y ∷ xs) x ys c =
      let r = parted xs x ys c.1 in
      -- were s not greater than y, it would be less than x
      let at_x : (order s y.key ≡ Greater → ⊥) → order s x.key ≡ Less = λ n. (all_right (λ z. order s z.key ≡ Less) xs (x ∷ ys) (c.0 n)).0 in
      record {
        left = (λ n. all_left (λ z. order s z.key ≡ Less) xs (x ∷ ys) (c.0 n), r.left);
        right = r.right;
        below = λ n. (greater_left (order s y.key) (λ e. n (at_x (not_greater_less e))) (λ e. n (at_x (not_greater_equal e))), r.below n);
        above = r.above;
      }

-- the laws of an order within one family of keys
pub record FamilyLaws {K : Type 0} (order : K → K → Ordering) (P : K → Type 0) : Type 0 where
  pub flips : (a b : K) → P a → P b → order a b ≡ ordering_reverse (order b a)
  pub chains : (a b c : K) → P a → P b → P c → order a b ≡ Less → order b c ≡ Less → order a c ≡ Less
  pub same : (a b : K) → P a → P b → order a b ≡ Equal → a ≡ b

module _ {K : Type 0} (order : K → K → Ordering) (P : K → Type 0) (law : FamilyLaws order P) where
  before_next : (s k : K) (es : List (Entry K)) → P s → P k → AllByRecursion (λ e. P e.key) es → order s k ≡ Less → Before order k es → Before order s es
  before_next s k [] ps pk pl h b = tt
  before_next s k (e ∷ es) ps pk pl h b = law.chains s k e.key ps pk pl.0 h b

  -- a key less than the first of ascending keys is less than all
  pub before_all : (s : K) (es : List (Entry K)) → P s → AllByRecursion (λ e. P e.key) es → Before order s es → Ascending order es → Compares order s Less es
  before_all s [] ps pl b a = tt
  before_all s (e ∷ es) ps pl b a = (b, before_all s es ps pl.1 (before_next s e.key es ps pl.0 pl.1 b a.0) a.1)

  ascending_cut : (s : K) (es : List (Entry K)) → P s → AllByRecursion (λ e. P e.key) es → Ascending order es → Cut order s es
  ascending_cut s [] ps pl a = tt
  ascending_cut s (e ∷ es) ps pl a = (λ n. before_all s es ps pl.1 (by (order s e.key) refl n) a.1, ascending_cut s es ps pl.1 a.1)
    where
      by : (w : Ordering) → order s e.key ≡ w → (order s e.key ≡ Greater → ⊥) → Before order s es
      by Less h n = before_next s e.key es ps pl.0 pl.1 h a.0
      by Equal h n = subst (λ k. Before order k es) (sym (law.same s e.key ps pl.0 h)) a.0
      by Greater h n = absurd (n h)

-- pairs in good order are cut by each key of their family
pub good_cut : {K I : Type 0} (order : K → K → Ordering) (family : I → K → Type 0) (i : I) → FamilyLaws order (family i) →
    (s : K) (es : List (Entry K)) → family i s → GoodOrder order family i es → Cut order s es
good_cut order family i law s es ps g = ascending_cut order (family i) law s es ps (recursion_from_All (λ e. family i e.key) es g.related) g.ascending
