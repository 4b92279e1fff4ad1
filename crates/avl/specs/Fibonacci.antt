-- How high a balanced tree of n nodes can be: with F(1) = F(2) = 1, the largest h with F(h + 2) ≤ n + 1.
use Rattle.std.specs.Prelude.{ℕ, zero, suc, ◌+◌, ◌≤◌, cond, nat_le}

abbrev pub fib : ℕ → ℕ
fib zero = 0
fib (suc zero) = 1
fib (suc (suc n)) = fib (suc n) + fib n

-- h, or as far above it as fits, in so many steps at most: a is F(h + 2), and b is F(h + 3)
abbrev pub climb : ℕ → ℕ → ℕ → ℕ → ℕ → ℕ
climb zero h a b n = h
climb (suc steps) h a b n = cond (nat_le b (suc n)) (climb steps (suc h) b (b + a) n) h

unfoldable pub bound : ℕ → ℕ
bound n = climb n 0 1 2 n

-- h is the largest that fits
pub record Largest (n h : ℕ) : Type 0 where
  pub fits : fib (suc (suc h)) ≤ suc n
  pub top : (m : ℕ) → fib (suc (suc m)) ≤ suc n → m ≤ h
