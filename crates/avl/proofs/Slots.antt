-- The slots of a tree: which come and go, that they stay distinct, and that n distinct slots below n are all of them.
use Rattle.std.proofs.Common.{◌≡◌, ℕ, zero, suc, ◌<◌, ◌≤◌, ◌⊎◌, List, [], ◌∷◌, ◌++◌, length, Some, None, Ordering, Less, Equal, Greater, sym, refl, subst, inl, inr, arith}
use Rattle.std.proofs.lemmas.Bool.{cases_eq}
use Rattle.std.specs.List.{AllByRecursion}
use Rattle.books.specs.Plain.{by_order}
use Rattle.books.specs.Meaning.{OneMore}
use Rattle.digits.proofs.Every.{all_left, all_right, all_append, all_weaker}
use Rattle.books.proofs.Cuts.{more_here, more_cons, more_length, all_without}
use Rattle.avl.specs.Avl.{Avl, tip, fork, size, slots, insert, spare, remove, freed, find}
use Rattle.avl.specs.Model.{Apart, Distinct}
use Rattle.avl.proofs.Inorder.{size_slots, never, insert_one_more, remove_slots}

-- Distinct numbers with one more or one less.
distinct_in : (j : ℕ) (xs ys : List ℕ) → Apart j (xs ++ ys) → Distinct (xs ++ ys) → Distinct (xs ++ (j ∷ ys))
distinct_in j [] ys p d = (p, d)
distinct_in j (i ∷ xs) ys p d = (
  all_append (λ k. i ≡ k → ⊥) xs (j ∷ ys) (all_left (λ k. i ≡ k → ⊥) xs ys d.0) (λ e. p.0 (sym e), all_right (λ k. i ≡ k → ⊥) xs ys d.0),
  distinct_in j xs ys p.1 d.1,
)

distinct_out : (j : ℕ) (xs ys : List ℕ) → Distinct (xs ++ (j ∷ ys)) → Apart j (xs ++ ys) × Distinct (xs ++ ys)
distinct_out j [] ys d = d
distinct_out j (i ∷ xs) ys d =
    let r = distinct_out j xs ys d.1 in
    let q = all_right (λ k. i ≡ k → ⊥) xs (j ∷ ys) d.0 in
    ((λ e. q.0 (sym e), r.0), (all_append (λ k. i ≡ k → ⊥) xs ys (all_left (λ k. i ≡ k → ⊥) xs (j ∷ ys) d.0) q.1, r.1))

pub distinct_more : (j : ℕ) (fewer more : List ℕ) → OneMore j fewer more → Apart j fewer → Distinct fewer → Distinct more
distinct_more j fewer more m p d = subst Distinct (sym m.with_it) (distinct_in j m.front m.back (subst (Apart j) m.without p) (subst Distinct m.without d))

pub distinct_less : (j : ℕ) (fewer more : List ℕ) → OneMore j fewer more → Distinct more → Apart j fewer × Distinct fewer
distinct_less j fewer more m d =
    let r = distinct_out j m.front m.back (subst Distinct m.with_it d) in
    (subst (Apart j) (sym m.without) r.0, subst Distinct (sym m.without) r.1)

-- two parts of a list of distinct numbers: no number is in both
pub record Split (xs ys : List ℕ) : Type 0 where
  pub left : Distinct xs
  pub right : Distinct ys
  pub left_right : AllByRecursion (λ j. Apart j ys) xs

pub split : (xs ys : List ℕ) → Distinct (xs ++ ys) → Split xs ys
split [] ys d = record { left = tt; right = d; left_right = tt }
split (i ∷ xs) ys d =
    let r = split xs ys d.1 in
    record { left = (all_left (λ k. i ≡ k → ⊥) xs ys d.0, r.left); right = r.right; left_right = (all_right (λ k. i ≡ k → ⊥) xs ys d.0, r.left_right) }

pub crossed : (xs ys : List ℕ) → AllByRecursion (λ j. Apart j ys) xs → AllByRecursion (λ j. Apart j xs) ys
crossed xs [] p = tt
crossed xs (y ∷ ys) p =
    (all_weaker (λ j. Apart j (y ∷ ys)) (λ j. y ≡ j → ⊥) (λ j q e. q.0 (sym e)) xs p, crossed xs ys (all_weaker (λ j. Apart j (y ∷ ys)) (λ j. Apart j ys) (λ j q. q.1) xs p))

-- a node's slot and the slots of its sides
pub record Sides {K : Type 0} (i : ℕ) (a b : Avl K) : Type 0 where
  pub off_left : Apart i (slots a)
  pub off_right : Apart i (slots b)
  pub left : Distinct (slots a)
  pub right : Distinct (slots b)
  pub left_right : AllByRecursion (λ j. Apart j (slots b)) (slots a)
  pub right_left : AllByRecursion (λ j. Apart j (slots a)) (slots b)

pub sides : {K : Type 0} (i : ℕ) (k : K) (v : ℕ) (a b : Avl K) → Distinct (slots (fork i k v a b)) → Sides i a b
sides i k v a b d =
    let u = distinct_out i (slots a) (slots b) d in
    let w = split (slots a) (slots b) u.1 in
    record {
      off_left = all_left (λ k. i ≡ k → ⊥) (slots a) (slots b) u.0;
      off_right = all_right (λ k. i ≡ k → ⊥) (slots a) (slots b) u.0;
      left = w.left;
      right = w.right;
      left_right = w.left_right;
      right_left = crossed (slots a) (slots b) w.left_right;
    }

module _ {K : Type 0} (order : K → K → Ordering) (k : K) where
  pub insert_slots : (v s : ℕ) (t : Avl K) → find order t k ≡ None → OneMore s (slots t) (slots (insert order t k v s))
  insert_slots v s t n = insert_one_more (λ i k v. i) order k v s t n

  pub insert_size : (v s : ℕ) (t : Avl K) → find order t k ≡ None → size (insert order t k v s) ≡ suc (size t)
  insert_size v s t n =
      let a = size_slots t in
      let b = size_slots (insert order t k v s) in
      let c = more_length s (slots t) (slots (insert order t k v s)) (insert_slots v s t n) in
      omega arith

  pub remove_size : (n : ℕ) (t : Avl K) → freed order t k ≡ Some n → size t ≡ suc (size (remove order t k))
  remove_size n t e =
      let a = size_slots t in
      let b = size_slots (remove order t k) in
      let c = more_length n (slots (remove order t k)) (slots t) (remove_slots order k t n e) in
      omega arith

  -- where a ticket is found, a slot is freed
  pub freed_some : (t : Avl K) (v : ℕ) → find order t k ≡ Some v → (n : ℕ) × (freed order t k ≡ Some n)
  freed_some tip v e = never (sym e)
  freed_some (fork i q w a b) v e = by (order k q) e (freed_some a v) (freed_some b v)
    where
      by : (c : Ordering) → by_order c (find order a k) (Some w) (find order b k) ≡ Some v →
          (find order a k ≡ Some v → (n : ℕ) × (freed order a k ≡ Some n)) → (find order b k ≡ Some v → (n : ℕ) × (freed order b k ≡ Some n)) →
          (n : ℕ) × (by_order c (freed order a k) (Some (spare i a b)) (freed order b k) ≡ Some n)
      by Less e x y = x e
      by Equal e x y = (spare i a b, refl)
      by Greater e x y = y e

-- a number is in a list, or apart from all of it
pub held_or_apart : (j : ℕ) (l : List ℕ) → ((fewer : List ℕ) × OneMore j fewer l) ⊎ Apart j l
held_or_apart j [] = inr tt
held_or_apart j (i ∷ l) = by (cases_eq j i) (held_or_apart j l)
  where
    by : ((j ≡ i) ⊎ (j ≡ i → ⊥)) → (((fewer : List ℕ) × OneMore j fewer l) ⊎ Apart j l) → ((fewer : List ℕ) × OneMore j fewer (i ∷ l)) ⊎ Apart j (i ∷ l)
    by (inl e) h = inl (l, subst (λ i. OneMore j l (i ∷ l)) e (more_here j [] l))
    by (inr n) (inl m) = inl (i ∷ m.0, more_cons j i m.0 l m.1)
    by (inr n) (inr p) = inr (n, p)

all_below : (n : ℕ) (l : List ℕ) → Apart n l → AllByRecursion (λ i. i < suc n) l → AllByRecursion (λ i. i < n) l
all_below n [] p q = tt
all_below n (i ∷ l) p q = (let h = p.0 in let k = q.0 in omega arith, all_below n l p.1 q.1)

-- there are no more than n distinct numbers below n
few_below : (n : ℕ) (l : List ℕ) → Distinct l → AllByRecursion (λ i. i < n) l → length l ≤ n
few_below zero [] d p = omega arith
few_below zero (i ∷ l) d p = absurd (let h = p.0 in omega arith)
few_below (suc n) l d p = by (few_below n) (held_or_apart n l)
  where
    by : ((l : List ℕ) → Distinct l → AllByRecursion (λ i. i < n) l → length l ≤ n) → (((fewer : List ℕ) × OneMore n fewer l) ⊎ Apart n l) → length l ≤ suc n
    by few (inl m) =
        let r = distinct_less n m.0 l m.1 d in
        let h = more_length n m.0 l m.1 in
        let k = few m.0 r.1 (all_below n m.0 r.0 (all_without n m.0 l m.1 (λ i. i < suc n) p)) in
        omega arith
    by few (inr a) = let k = few l d (all_below n l a p) in omega arith

-- n distinct numbers below n are all the numbers below n
pub none_apart : (l : List ℕ) → Distinct l → AllByRecursion (λ i. i < length l) l → (j : ℕ) → j < length l → Apart j l → ⊥
none_apart l d p j h a = let k = few_below (length l) (j ∷ l) (a, d) (h, p) in omega arith
