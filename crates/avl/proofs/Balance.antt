-- Balanced trees stay balanced, and their heights move by one at most.
use Rattle.std.proofs.Common.{◌≡◌, ℕ, suc, ◌<◌, ◌≤◌, max, ltb, ◌⊎◌, Ordering, refl, ◌∙◌, inl, inr, arith}
use Rattle.std.proofs.lemmas.Bool.{cond_both, cond-true, cond-false, ltb-true, ltb-false, lt-ltb, le-ltb}
use Rattle.books.proofs.Cuts.{by_all}
use Rattle.avl.specs.Avl.{Avl, tip, fork, height, Balanced, turn_right, turn_left, ready_left, ready_right, balance, insert, least_key, least_ticket, without_least, joined, remove}

-- what holds of each way in which a node is put in balance, holds of the node in balance
pub balance_all : {K : Type 0} (P : Avl K → Type 0) (i : ℕ) (k : K) (v : ℕ) (a b : Avl K) →
    (suc (height b) < height a → P (turn_right i k v (ready_left a) b)) →
    (suc (height a) < height b → P (turn_left i k v a (ready_right b))) →
    (height a ≤ suc (height b) → height b ≤ suc (height a) → P (fork i k v a b)) →
    P (balance i k v a b)
unfolding balance
balance_all P i k v a b right left even =
    cond_both (ltb (suc (height b)) (height a)) _ _ P (λ t. right (ltb-true _ _ t))
    (λ f. cond_both (ltb (suc (height a)) (height b)) _ _ P (λ t. left (ltb-true _ _ t)) (λ f'. even (ltb-false _ _ f) (ltb-false _ _ f')))

-- what balance is, by the heights
module _ {K : Type 0} (i : ℕ) (k : K) (v : ℕ) (a b : Avl K) where
  pub balance_is_right : suc (height b) < height a → balance i k v a b ≡ turn_right i k v (ready_left a) b
  unfolding balance
  balance_is_right h = cond-true _ _ _ (lt-ltb _ _ h)

  pub balance_is_left : suc (height a) < height b → balance i k v a b ≡ turn_left i k v a (ready_right b)
  unfolding balance
  balance_is_left h = cond-false _ _ _ (le-ltb (suc (height b)) (height a) (omega arith)) ∙ cond-true _ _ _ (lt-ltb _ _ h)

  pub balance_is_fork : height a ≤ suc (height b) → height b ≤ suc (height a) → balance i k v a b ≡ fork i k v a b
  unfolding balance
  balance_is_fork h h' = cond-false _ _ _ (le-ltb _ _ h) ∙ cond-false _ _ _ (le-ltb _ _ h')

-- a tree made of sides of heights m and n: in balance, as high as a node over them, or one lower where they differed by 2
pub record Settled {K : Type 0} (m n : ℕ) (t : Avl K) : Type 0 where
  pub balanced : Balanced t
  pub high : height t ≤ suc (max m n)
  pub low : max m n ≤ height t
  pub same : (height t ≡ suc (max m n)) ⊎ ((suc n < m) ⊎ (suc m < n))

module _ {K : Type 0} (i : ℕ) (k : K) (v : ℕ) where
  right_single : (j : ℕ) (q : K) (w : ℕ) (c d b : Avl K) → Balanced (fork j q w c d) → Balanced b →
      height (fork j q w c d) ≡ suc (suc (height b)) → height d ≤ height c →
      Settled (height (fork j q w c d)) (height b) (turn_right i k v (fork j q w c d) b)
  right_single j q w c d b p r e h =
      record { balanced = (omega arith, omega arith, p.2, (omega arith, omega arith, p.3, r)); high = omega arith; low = omega arith; same = inr (inl (omega arith)) }

  right_double : (j : ℕ) (q : K) (w : ℕ) (c d b : Avl K) → Balanced (fork j q w c d) → Balanced b →
      height (fork j q w c d) ≡ suc (suc (height b)) → height c < height d →
      Settled (height (fork j q w c d)) (height b) (turn_right i k v (turn_left j q w c d) b)
  right_double j q w c tip b p r e h = absurd (omega arith)
  right_double j q w c (fork m x u f g) b p r e h =
      record {
        balanced = (omega arith, omega arith, (omega arith, omega arith, p.2, p.3.2), (omega arith, omega arith, p.3.3, r));
        high = omega arith;
        low = omega arith;
        same = inr (inl (omega arith));
      }

  left_single : (j : ℕ) (q : K) (w : ℕ) (a c d : Avl K) → Balanced a → Balanced (fork j q w c d) →
      height (fork j q w c d) ≡ suc (suc (height a)) → height c ≤ height d →
      Settled (height a) (height (fork j q w c d)) (turn_left i k v a (fork j q w c d))
  left_single j q w a c d r p e h =
      record { balanced = (omega arith, omega arith, (omega arith, omega arith, r, p.2), p.3); high = omega arith; low = omega arith; same = inr (inr (omega arith)) }

  left_double : (j : ℕ) (q : K) (w : ℕ) (a c d : Avl K) → Balanced a → Balanced (fork j q w c d) →
      height (fork j q w c d) ≡ suc (suc (height a)) → height d < height c →
      Settled (height a) (height (fork j q w c d)) (turn_left i k v a (turn_right j q w c d))
  left_double j q w a tip d r p e h = absurd (omega arith)
  left_double j q w a (fork m x u f g) d r p e h =
      record {
        balanced = (omega arith, omega arith, (omega arith, omega arith, r, p.2.2), (omega arith, omega arith, p.2.3, p.3));
        high = omega arith;
        low = omega arith;
        same = inr (inr (omega arith));
      }

  right_settles : (a b : Avl K) → Balanced a → Balanced b → height a ≡ suc (suc (height b)) → Settled (height a) (height b) (turn_right i k v (ready_left a) b)
  right_settles tip b p r e = absurd (omega arith)
  right_settles (fork j q w c d) b p r e =
      cond_both (ltb (height c) (height d)) _ _ (λ t. Settled (suc (max (height c) (height d))) (height b) (turn_right i k v t b))
      (λ t. right_double j q w c d b p r e (ltb-true _ _ t)) (λ f. right_single j q w c d b p r e (ltb-false _ _ f))

  left_settles : (a b : Avl K) → Balanced a → Balanced b → height b ≡ suc (suc (height a)) → Settled (height a) (height b) (turn_left i k v a (ready_right b))
  left_settles a tip r p e = absurd (omega arith)
  left_settles a (fork j q w c d) r p e =
      cond_both (ltb (height d) (height c)) _ _ (λ t. Settled (height a) (suc (max (height c) (height d))) (turn_left i k v a t))
      (λ t. left_double j q w a c d r p e (ltb-true _ _ t)) (λ f. left_single j q w a c d r p e (ltb-false _ _ f))

  -- sides whose heights differ by 2 at most are put in balance
  pub balance_settles : (a b : Avl K) → Balanced a → Balanced b → height a ≤ suc (suc (height b)) → height b ≤ suc (suc (height a)) →
      Settled (height a) (height b) (balance i k v a b)
  balance_settles a b p q m n =
      balance_all (Settled (height a) (height b)) i k v a b
      (λ h. right_settles a b p q (omega arith)) (λ h. left_settles a b p q (omega arith))
      (λ x y. record { balanced = (x, y, p, q); high = omega arith; low = omega arith; same = inl refl })

-- in balance, and of height h or one more
pub record Grown {K : Type 0} (h : ℕ) (t : Avl K) : Type 0 where
  pub balanced : Balanced t
  pub low : h ≤ height t
  pub high : height t ≤ suc h

-- in balance, and of height h or one less
pub record Shrunk {K : Type 0} (h : ℕ) (t : Avl K) : Type 0 where
  pub balanced : Balanced t
  pub low : h ≤ suc (height t)
  pub high : height t ≤ h

-- a node with a side that has grown or shrunk, put in balance
module _ {K : Type 0} (i : ℕ) (k : K) (v : ℕ) where
  pub grow_left : (a a' b : Avl K) → Balanced (fork i k v a b) → Grown (height a) a' → Grown (height (fork i k v a b)) (balance i k v a' b)
  grow_left a a' b p g =
      let s = balance_settles i k v a' b g.balanced p.3 (omega arith) (omega arith) in
      record { balanced = s.balanced; low = omega arith; high = omega arith }

  pub grow_right : (a b b' : Avl K) → Balanced (fork i k v a b) → Grown (height b) b' → Grown (height (fork i k v a b)) (balance i k v a b')
  grow_right a b b' p g =
      let s = balance_settles i k v a b' p.2 g.balanced (omega arith) (omega arith) in
      record { balanced = s.balanced; low = omega arith; high = omega arith }

  pub shrink_left : (a a' b : Avl K) → Balanced (fork i k v a b) → Shrunk (height a) a' → Shrunk (height (fork i k v a b)) (balance i k v a' b)
  shrink_left a a' b p g =
      let s = balance_settles i k v a' b g.balanced p.3 (omega arith) (omega arith) in
      record { balanced = s.balanced; low = omega arith; high = omega arith }

  -- the node may have another pair then
  pub shrink_right : (q : K) (w : ℕ) (a b b' : Avl K) → Balanced (fork i k v a b) → Shrunk (height b) b' → Shrunk (height (fork i k v a b)) (balance i q w a b')
  shrink_right q w a b b' p g =
      let s = balance_settles i q w a b' p.2 g.balanced (omega arith) (omega arith) in
      record { balanced = s.balanced; low = omega arith; high = omega arith }

pub insert_balanced : {K : Type 0} (order : K → K → Ordering) (t : Avl K) (k : K) (v s : ℕ) → Balanced t → Grown (height t) (insert order t k v s)
insert_balanced order tip k v s p = record { balanced = (omega arith, omega arith, tt, tt); low = omega arith; high = omega arith }
insert_balanced order (fork i q w a b) k v s p =
    by_all (Grown (suc (max (height a) (height b)))) (order k q)
    (grow_left i q w a (insert order a k v s) b p (insert_balanced order a k v s p.2))
    (record { balanced = p; low = omega arith; high = omega arith })
    (grow_right i q w a b (insert order b k v s) p (insert_balanced order b k v s p.3))

pub without_least_balanced : {K : Type 0} (i : ℕ) (k : K) (v : ℕ) (a b : Avl K) → Balanced (fork i k v a b) → Shrunk (height (fork i k v a b)) (without_least i k v a b)
without_least_balanced i k v tip b p = record { balanced = p.3; low = omega arith; high = omega arith }
without_least_balanced i k v (fork j q w c d) b p =
    shrink_left i k v (fork j q w c d) (without_least j q w c d) b p (without_least_balanced j q w c d p.2)

pub joined_balanced : {K : Type 0} (i : ℕ) (k : K) (v : ℕ) (a b : Avl K) → Balanced (fork i k v a b) → Shrunk (height (fork i k v a b)) (joined i a b)
joined_balanced i k v tip b p = record { balanced = p.3; low = omega arith; high = omega arith }
joined_balanced i k v (fork j q w c d) tip p = record { balanced = p.2; low = omega arith; high = omega arith }
joined_balanced i k v (fork j q w c d) (fork m x u e f) p =
    shrink_right i k v (least_key m x u e) (least_ticket m x u e) (fork j q w c d) (fork m x u e f) (without_least m x u e f) p (without_least_balanced m x u e f p.3)

pub remove_balanced : {K : Type 0} (order : K → K → Ordering) (t : Avl K) (s : K) → Balanced t → Shrunk (height t) (remove order t s)
remove_balanced order tip s p = record { balanced = tt; low = omega arith; high = omega arith }
remove_balanced order (fork i k v a b) s p =
    by_all (Shrunk (suc (max (height a) (height b)))) (order s k)
    (shrink_left i k v a (remove order a s) b p (remove_balanced order a s p.2))
    (joined_balanced i k v a b p)
    (shrink_right i k v k v a b (remove order b s) p (remove_balanced order b s p.3))
