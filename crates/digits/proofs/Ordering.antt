-- The laws of the orders of numbers and of rows, and that packing keeps the order.
use Rattle.std.proofs.Common.{◌≡◌, ℕ, zero, suc, ◌+◌, ◌*◌, ◌/◌, ◌%◌, ◌^◌, ◌<◌, ◌≤◌, List, [], ◌∷◌, ◌++◌, length, Ordering, Less, Equal, Greater, sym, refl, ap, ◌∙◌, ⊎_elim, mul-le-mul_right, mod-lt, mod-eq_of_lt, suc-mul, arith}
use native.Mathlib.Nat.{mod-one, pow-zero, pow-succ'}
use lib.Arith.{mod-mul}
use Rattle.std.specs.Ordering.{ordering_reverse, ordering_then}
use Rattle.std.specs.List.{AllByRecursion}
use Rattle.std.proofs.lemmas.Bool.{cases_order}
use Rattle.std.proofs.lemmas.Bool.Decides.{nat_tests}
use Rattle.digits.specs.Orders.{number_order, row_order}
use Rattle.digits.specs.Positional.{digits, unpacked}
use Rattle.digits.proofs.Packing.{pow_positive, length_digits}

-- one order and then another

pub then_assoc : (a b c : Ordering) → ordering_then (ordering_then a b) c ≡ ordering_then a (ordering_then b c)
then_assoc Less b c = refl
then_assoc Equal b c = refl
then_assoc Greater b c = refl

pub reversed_then : (a b : Ordering) → ordering_reverse (ordering_then a b) ≡ ordering_then (ordering_reverse a) (ordering_reverse b)
reversed_then Less b = refl
reversed_then Equal b = refl
reversed_then Greater b = refl

pub then_flips : (a b a' b' : Ordering) → a ≡ ordering_reverse a' → b ≡ ordering_reverse b' → ordering_then a b ≡ ordering_reverse (ordering_then a' b')
then_flips a b a' b' e f = cc (reversed_then a' b')

-- of three values, the first parts compare as ab, bc and ac, and the second parts as ab', bc' and ac'
pub then_chains : (ab bc ac ab' bc' ac' : Ordering) → (ab ≡ Less → bc ≡ Less → ac ≡ Less) → (ab ≡ Equal → ac ≡ bc) → (bc ≡ Equal → ac ≡ ab) → (ab' ≡ Less → bc' ≡ Less → ac' ≡ Less) → ordering_then ab ab' ≡ Less → ordering_then bc bc' ≡ Less → ordering_then ac ac' ≡ Less
then_chains Less Less ac ab' bc' ac' chains left right rest p q = ap (λ o. ordering_then o ac') (chains refl refl)
then_chains Less Equal ac ab' bc' ac' chains left right rest p q = ap (λ o. ordering_then o ac') (right refl)
then_chains Equal Less ac ab' bc' ac' chains left right rest p q = ap (λ o. ordering_then o ac') (left refl)
then_chains Equal Equal ac ab' bc' ac' chains left right rest p q = ap (λ o. ordering_then o ac') (left refl) ∙ rest p q
then_chains Less Greater ac ab' bc' ac' chains left right rest p q = cc
then_chains Equal Greater ac ab' bc' ac' chains left right rest p q = cc
then_chains Greater bc ac ab' bc' ac' chains left right rest p q = cc

pub then_same : (a b : Ordering) → ordering_then a b ≡ Equal → (a ≡ Equal) × (b ≡ Equal)
then_same Less b e = (e, cc)
then_same Equal b e = (refl, e)
then_same Greater b e = (e, cc)

-- numbers

pub order_less : (m n : ℕ) → m < n → number_order m n ≡ Less
order_less m n h = grind (arith, nat_tests)

pub order_same : (m n : ℕ) → m ≡ n → number_order m n ≡ Equal
order_same m n h = grind (arith, nat_tests)

pub order_greater : (m n : ℕ) → n < m → number_order m n ≡ Greater
order_greater m n h = grind (arith, nat_tests)

-- rows

pub row_order_append : (a b c d : List ℕ) → length a ≡ length b → row_order (a ++ c) (b ++ d) ≡ ordering_then (row_order a b) (row_order c d)
row_order_append [] [] c d e = refl
row_order_append [] (n ∷ ns) c d e = absurd (omega arith)
row_order_append (m ∷ ms) [] c d e = absurd (omega arith)
row_order_append (m ∷ ms) (n ∷ ns) c d e =
    ap (ordering_then (number_order m n)) (row_order_append ms ns c d (omega arith)) ∙ sym (then_assoc (number_order m n) (row_order ms ns) (row_order c d))

-- digits

-- a smaller upper part leaves room for any lower part
upper_room : (r a b : ℕ) → a < b → a * r + r ≤ b * r
upper_room r a b h = omega (arith, suc-mul a r, mul-le-mul_right r h)

-- a number of two parts is ordered by its upper part, and then by its lower part
upper_then_lower : (r a b x y : ℕ) → x < r → y < r → number_order (a * r + x) (b * r + y) ≡ ordering_then (number_order a b) (number_order x y)
upper_then_lower r a b x y hx hy =
    ⊎_elim
    (λ e. let same = ap (λ k. k * r) e in grind (arith, nat_tests))
    (⊎_elim
    (λ h. let room = upper_room r a b h in grind (arith, nat_tests))
    (λ h. let room = upper_room r b a h in grind (arith, nat_tests)))
    (cases_order a b)

pub digits_order : (radix k m n : ℕ) → 0 < radix → row_order (digits radix k m) (digits radix k n) ≡ number_order (m % radix ^ k) (n % radix ^ k)
digits_order radix zero m n h = sym (order_same (m % radix ^ 0) (n % radix ^ 0) (rw pow-zero (mod-one m ∙ sym (mod-one n))))
digits_order radix (suc k) m n h =
    let high = pow_positive radix k h in
    let step = upper_then_lower (radix ^ k) (m / radix ^ k % radix) (n / radix ^ k % radix) (m % radix ^ k) (n % radix ^ k) (mod-lt m high) (mod-lt n high) in
    cc (digits_order radix k m n h, step, mod-mul m h high, mod-mul n h high, pow-succ' radix k)

pub digits_order_within : (radix k m n : ℕ) → 0 < radix → m < radix ^ k → n < radix ^ k → row_order (digits radix k m) (digits radix k n) ≡ number_order m n
digits_order_within radix k m n h hm hn = cc (digits_order radix k m n h, mod-eq_of_lt hm, mod-eq_of_lt hn)

pub unpacked_order : (radix k : ℕ) → 0 < radix → (ms ns : List ℕ) → length ms ≡ length ns → AllByRecursion (λ n. n < radix ^ k) ms → AllByRecursion (λ n. n < radix ^ k) ns → row_order (unpacked radix k ms) (unpacked radix k ns) ≡ row_order ms ns
unpacked_order radix k h [] [] e small small' = refl
unpacked_order radix k h [] (n ∷ ns) e small small' = absurd (omega arith)
unpacked_order radix k h (m ∷ ms) [] e small small' = absurd (omega arith)
unpacked_order radix k h (m ∷ ms) (n ∷ ns) e small small' =
    let lengths = length_digits radix k m ∙ sym (length_digits radix k n) in
    let split = row_order_append (digits radix k m) (digits radix k n) (unpacked radix k ms) (unpacked radix k ns) lengths in
    cc (split, digits_order_within radix k m n h small.0 small'.0, unpacked_order radix k h ms ns (omega arith) small.1 small'.1)
