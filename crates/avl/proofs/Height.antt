-- A balanced tree of few nodes is low, and no way down is longer than it is high.
use Rattle.std.proofs.Common.{◌≡◌, ℕ, zero, suc, ◌+◌, ◌-◌, ◌<◌, ◌≤◌, max, Bool, cond, leb, ◌⊎◌, Ordering, Less, Equal, Greater, refl, subst, inl, inr, arith}
use Rattle.std.proofs.lemmas.Bool.{cases_lt, cond_both, leb-true, leb-false}
use Rattle.books.specs.Plain.{by_order}
use Rattle.avl.specs.Avl.{Avl, tip, fork, height, size, Balanced, path}
use Rattle.avl.specs.Fibonacci.{fib, climb, bound, Largest}

fib_step : (n : ℕ) → fib n ≤ fib (suc n)
fib_step zero = omega arith
fib_step (suc zero) = omega arith
fib_step (suc (suc n)) = let h = fib_step (suc n) in omega arith

fib_up : (m n : ℕ) → fib m ≤ fib (n + m)
fib_up m zero = subst (λ k. fib m ≤ fib k) (let e : m ≡ 0 + m = omega arith in e) (omega arith)
fib_up m (suc n) =
    let h = fib_up m n in
    let s = fib_step (n + m) in
    let e : suc (n + m) ≡ suc n + m = omega arith in
    subst (λ k. fib m ≤ fib k) e (omega arith)

pub fib_le : (m n : ℕ) → m ≤ n → fib m ≤ fib n
fib_le m n le = let e : (n - m) + m ≡ n = omega arith in subst (λ k. fib m ≤ fib k) e (fib_up m (n - m))

-- a node over sides of heights h and k and of p and q nodes, the first side no lower than the second
few_higher : (h k p q : ℕ) → k ≤ h → h ≤ suc k → fib (suc (suc h)) ≤ suc p → fib (suc (suc k)) ≤ suc q → fib (suc (suc (suc h))) ≤ suc (suc (p + q))
few_higher h k p q le ge a b = let m = fib_le (suc h) (suc (suc k)) (omega arith) in omega arith

few_node : (h k p q : ℕ) → h ≤ suc k → k ≤ suc h → fib (suc (suc h)) ≤ suc p → fib (suc (suc k)) ≤ suc q → fib (suc (suc (suc (max h k)))) ≤ suc (suc (p + q))
few_node h k p q a b c d = by (cases_lt h k)
  where
    by : ((h < k) ⊎ (k ≤ h)) → fib (suc (suc (suc (max h k)))) ≤ suc (suc (p + q))
    by (inl lt) =
        let e : k ≡ max h k = omega arith in
        subst (λ m. fib (suc (suc (suc m))) ≤ suc (suc (p + q))) e (let t = few_higher k h q p (omega arith) b d c in omega arith)
    by (inr le) =
        let e : h ≡ max h k = omega arith in
        subst (λ m. fib (suc (suc (suc m))) ≤ suc (suc (p + q))) e (few_higher h k p q le a c d)

-- F(height + 2) ≤ size + 1
pub few : {K : Type 0} (t : Avl K) → Balanced t → fib (suc (suc (height t))) ≤ suc (size t)
few tip b = omega arith
few (fork i k v x y) b = few_node (height x) (height y) (size x) (size y) b.0 b.1 (few x b.2) (few y b.3)

fib_high : (h : ℕ) → suc h ≤ fib (suc (suc h))
fib_high zero = omega arith
fib_high (suc zero) = omega arith
fib_high (suc (suc h)) = let x = fib_high (suc h) in let y = fib_high h in omega arith

-- h fits, and one more does not
record Tops (n h : ℕ) : Type 0 where
  fits : fib (suc (suc h)) ≤ suc n
  over : suc n < fib (suc (suc (suc h)))

climbs : (steps h n : ℕ) → n ≤ steps + h → fib (suc (suc h)) ≤ suc n → Tops n (climb steps h (fib (suc (suc h))) (fib (suc (suc (suc h)))) n)
climbs zero h n le fit = let x = fib_high (suc h) in record { fits = fit; over = omega arith }
climbs (suc steps) h n le fit =
    cond_both (leb (fib (suc (suc (suc h)))) (suc n)) _ _ (Tops n)
    (λ e. climbs steps (suc h) n (omega arith) (leb-true _ _ e)) (λ e. record { fits = fit; over = leb-false _ _ e })

tops_largest : (n h : ℕ) → Tops n h → Largest n h
tops_largest n h t = record { fits = t.fits; top = λ m le. by m le (cases_lt h m) }
  where
    by : (m : ℕ) → fib (suc (suc m)) ≤ suc n → ((h < m) ⊎ (m ≤ h)) → m ≤ h
    by m le (inl lt) = let x = fib_le (suc (suc (suc h))) (suc (suc m)) (omega arith) in let y = t.over in absurd (omega arith)
    by m le (inr ok) = ok

pub bound_largest : (n : ℕ) → Largest n (bound n)
unfolding bound
bound_largest n = tops_largest n _ (climbs n 0 n (omega arith) (omega arith))

pub low : {K : Type 0} (t : Avl K) → Balanced t → height t ≤ bound (size t)
low t b = (bound_largest (size t)).top (height t) (few t b)

pub bound_6 : bound 6 ≡ 3
unfolding bound
bound_6 = refl

pub bound_7 : bound 7 ≡ 4
unfolding bound
bound_7 = refl

pub bound_65535 : bound 65535 ≡ 22
unfolding bound
bound_65535 = refl

-- a balanced tree in 65,535 slots
pub low_in_slots : {K : Type 0} (t : Avl K) → Balanced t → size t ≤ 65535 → height t ≤ 22
low_in_slots t b le =
    let x = few t b in
    let fits : fib (suc (suc (height t))) ≤ suc 65535 = omega arith in
    let y = (bound_largest 65535).top (height t) fits in
    let z = bound_65535 in
    omega arith

path_by : (w : Ordering) (p q r h k : ℕ) → p ≤ h → q ≤ max h k → r ≤ k → suc (by_order w p q r) ≤ suc (max h k)
path_by Less p q r h k a c b = omega arith
path_by Equal p q r h k a c b = omega arith
path_by Greater p q r h k a c b = omega arith

module _ {K : Type 0} (after : Bool) (order : K → K → Ordering) (s : K) where
  pub path_low : (t : Avl K) → path after order t s ≤ height t
  path_low tip = omega arith
  path_low (fork i k v a b) =
      let y = path_low b in
      path_by (order s k) (path after order a s) (cond after (path after order b s) 0) (path after order b s) (height a) (height b) (path_low a)
      (cond_both after (path after order b s) 0 (λ n. n ≤ max (height a) (height b)) (λ _. omega arith) (λ _. omega arith)) y

  pub path_bound : (t : Avl K) → Balanced t → path after order t s ≤ bound (size t)
  path_bound t b = let x = path_low t in let y = low t b in omega arith
