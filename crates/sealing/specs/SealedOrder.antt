-- Keys sealed under one mask function compare as their key bytes do.
use Rattle.std.specs.Prelude.{◌≡◌, ℕ, suc, ◌+◌, ◌-◌, ◌*◌, ◌%◌, ◌<◌, ◌≤◌, Bool, true, false, cond, List, [], ◌∷◌, ◌++◌, map, length, replicate, ◌==◌, ◌≢◌, nat_lt, refl}
use Rattle.std.specs.declared.cmp.Ordering.TheVariants.{Less, Equal, Greater}
use Rattle.std.specs.declared.cmp.Ordering.{Ordering}
use Rattle.std.proofs.Common.{sym, ap, ◌∙◌, ⊎_elim, arith, lit<}
use mir.Val.{bool_byte}
use Rattle.std.specs.Ordering.{ordering_reverse, ordering_then}
use Rattle.std.proofs.lemmas.Bool.{cases_order, cond-true, cond-false, eq-eqb, ne_eqb, lt-ltb, le-ltb}
use Rattle.digits.specs.Orders.{number_order, row_order}
use Rattle.digits.specs.Positional.{bits, trits}
use Rattle.digits.proofs.Bits.{bits_order}
use Rattle.digits.proofs.Ordering.{order_less, order_same, order_greater, then_flips, then_chains, then_same}
use Rattle.std.proofs.lemmas.Cmp.{nat_cmp_total, nat_list_cmp_total}
use Rattle.std.specs.FinMap.{nat_cmp-IsAntisymmetric, slice_cmp-IsAntisymmetric}
use Rattle.digits.proofs.Packing.{filled_is, unpacked_packed, length_bits}
use Rattle.keys.specs.Kinds.{Bytes, Served}
use Rattle.sealing.specs.declared.records.SealedKey.{SealedKey}
use Rattle.sealing.specs.Masking.{masked, packed_trits}
use Rattle.sealing.specs.Sealed.{sealed, SealedUnder}
use Rattle.sealing.specs.Compared.{decided, trits_compared, compared, difference_from, first_different_bit}
use Rattle.sealing.specs.MaskingLemmas.{length_masked, masked_lt}

-- the trits of a sealed key, and zeros behind them
pub sealed_trits : (f : List Bool → ℕ) (key : List ℕ) → length key ≤ 32 → trits (sealed f key).bytes ≡ masked f [] (bits key) ++ replicate (260 - 8 * length key) 0
unfolding sealed packed_trits
sealed_trits f key h =
    let ts = masked f [] (bits key) in
    let size : length ts ≡ 8 * length key = length_masked f [] (bits key) ∙ length_bits key in
    unpacked_packed 3 5 52 ts (lit< tt) (masked_lt f [] (bits key)) ∙ filled_is 260 ts (omega arith) ∙ ap (λ n. ts ++ replicate (260 - n) 0) size

-- rows that agree
compared_self : (place : ℕ) (xs : List ℕ) → trits_compared place xs xs ≡ decided Equal 0
compared_self place [] = refl
compared_self place (x ∷ xs) = cond-true (x == x) _ _ (eq-eqb x x refl) ∙ compared_self (suc place) xs

-- what both rows end in decides nothing
compared_append : (place : ℕ) (xs ys zs : List ℕ) → length xs ≡ length ys → trits_compared place (xs ++ zs) (ys ++ zs) ≡ trits_compared place xs ys
compared_append place [] [] zs e = compared_self place zs
compared_append place [] (y ∷ ys) zs e = absurd (omega arith)
compared_append place (x ∷ xs) [] zs e = absurd (omega arith)
compared_append place (x ∷ xs) (y ∷ ys) zs e =
    ap (λ later. cond (x == y) later (decided (cond (y == (x + 1) % 3) Less Greater) place)) (compared_append (suc place) xs ys zs (omega arith))

module _ (f : List Bool → ℕ) where
  same_bit : (before : List Bool) (place : ℕ) (bit : Bool) (xs ys : List ℕ)
      → trits_compared place (((f before + bool_byte bit) % 3) ∷ xs) (((f before + bool_byte bit) % 3) ∷ ys) ≡ trits_compared (suc place) xs ys
  same_bit before place bit xs ys = let t = (f before + bool_byte bit) % 3 in cond-true (t == t) _ _ (eq-eqb t t refl)

  other_bit : (place x y : ℕ) (xs ys : List ℕ) (order : Ordering) → (x ≢ y) → cond (y == (x + 1) % 3) Less Greater ≡ order → trits_compared place (x ∷ xs) (y ∷ ys) ≡ decided order place
  other_bit place x y xs ys order ne e = cond-false (x == y) _ _ (ne_eqb x y ne) ∙ ap (λ o. decided o place) e

  -- after equal bits the masks are equal, so the first different bit is the first different trit
  masked_compared : (before : List Bool) (place : ℕ) (xs ys : List Bool) → length xs ≡ length ys
      → trits_compared place (masked f before xs) (masked f before ys) ≡ decided (row_order (map bool_byte xs) (map bool_byte ys)) (difference_from place xs ys)
  masked_compared before place [] [] e = refl
  masked_compared before place [] (y ∷ ys) e = absurd (omega arith)
  masked_compared before place (x ∷ xs) [] e = absurd (omega arith)
  masked_compared before place (true ∷ xs) (true ∷ ys) e = same_bit before place true (masked f (before ++ true ∷ []) xs) (masked f (before ++ true ∷ []) ys) ∙ masked_compared (before ++ true ∷ []) (suc place) xs ys (omega arith)
  masked_compared before place (false ∷ xs) (false ∷ ys) e = same_bit before place false (masked f (before ++ false ∷ []) xs) (masked f (before ++ false ∷ []) ys) ∙ masked_compared (before ++ false ∷ []) (suc place) xs ys (omega arith)
  masked_compared before place (false ∷ xs) (true ∷ ys) e =
      let m = f before in
      let next : (m + 1) % 3 ≡ ((m + 0) % 3 + 1) % 3 = omega arith in
      other_bit place ((m + 0) % 3) ((m + 1) % 3) (masked f (before ++ false ∷ []) xs) (masked f (before ++ true ∷ []) ys) Less (λ same. omega arith) (ap (λ t. cond t Less Greater) (eq-eqb ((m + 1) % 3) (((m + 0) % 3 + 1) % 3) next))
  masked_compared before place (true ∷ xs) (false ∷ ys) e =
      let m = f before in
      let skips : (m + 0) % 3 ≡ ((m + 1) % 3 + 1) % 3 → ⊥ = λ same. omega arith in
      other_bit place ((m + 1) % 3) ((m + 0) % 3) (masked f (before ++ true ∷ []) xs) (masked f (before ++ false ∷ []) ys) Greater (λ same. omega arith) (ap (λ t. cond t Less Greater) (ne_eqb ((m + 0) % 3) (((m + 1) % 3 + 1) % 3) skips))

  module _ (u v : List ℕ) (u_bytes : Bytes u) (v_bytes : Bytes v) (u_served : Served (length u)) (v_served : Served (length v)) where
    same_width : length u ≡ length v → compared (sealed f u) (sealed f v) ≡ trits_compared 1 (trits (sealed f u).bytes) (trits (sealed f v).bytes)
    unfolding sealed
    same_width long =
        cond-false (nat_lt (length u) (length v)) _ _ (le-ltb (length u) (length v) (omega arith))
        ∙ cond-false (nat_lt (length v) (length u)) _ _ (le-ltb (length v) (length u) (omega arith))

    pub compares_as_bytes : length u ≡ length v → compared (sealed f u) (sealed f v) ≡ decided (row_order u v) (first_different_bit (bits u) (bits v))
    compares_as_bytes long =
        let size : length (bits u) ≡ length (bits v) = length_bits u ∙ ap (λ n. 8 * n) long ∙ sym (length_bits v) in
        let u_trits = sealed_trits f u u_served.1 in
        let v_trits = sealed_trits f v v_served.1 ∙ ap (λ n. masked f [] (bits v) ++ replicate (260 - 8 * n) 0) (sym long) in
        let sizes : length (masked f [] (bits u)) ≡ length (masked f [] (bits v)) = length_masked f [] (bits u) ∙ size ∙ sym (length_masked f [] (bits v)) in
        same_width long
        ∙ ap (λ ts. trits_compared 1 ts (trits (sealed f v).bytes)) u_trits ∙ ap (trits_compared 1 (masked f [] (bits u) ++ replicate (260 - 8 * length u) 0)) v_trits
        ∙ compared_append 1 (masked f [] (bits u)) (masked f [] (bits v)) (replicate (260 - 8 * length u) 0) sizes
        ∙ masked_compared [] 1 (bits u) (bits v) size
        ∙ ap (λ o. decided o (first_different_bit (bits u) (bits v))) (bits_order u v long u_bytes v_bytes)

    pub narrower_is_less : length u < length v → compared (sealed f u) (sealed f v) ≡ decided Less 0
    unfolding sealed
    narrower_is_less h = cond-true (nat_lt (length u) (length v)) _ _ (lt-ltb (length u) (length v) h)

    pub wider_is_greater : length v < length u → compared (sealed f u) (sealed f v) ≡ decided Greater 0
    unfolding sealed
    wider_is_greater h =
        cond-false (nat_lt (length u) (length v)) _ _ (le-ltb (length u) (length v) (omega arith))
        ∙ cond-true (nat_lt (length v) (length u)) _ _ (lt-ltb (length v) (length u) h)

    -- the order of sealed keys: first by width, then by key bytes
    sealed_order : (compared (sealed f u) (sealed f v)).order ≡ ordering_then (number_order (length u) (length v)) (row_order u v)
    sealed_order =
        ⊎_elim
        (λ e. ap (λ c. c.order) (compares_as_bytes e) ∙ sym (ap (λ o. ordering_then o (row_order u v)) (order_same (length u) (length v) e)))
        (⊎_elim
        (λ h. ap (λ c. c.order) (narrower_is_less h) ∙ sym (ap (λ o. ordering_then o (row_order u v)) (order_less (length u) (length v) h)))
        (λ h. ap (λ c. c.order) (wider_is_greater h) ∙ sym (ap (λ o. ordering_then o (row_order u v)) (order_greater (length u) (length v) h))))
        (cases_order (length u) (length v))

  order_is : (a b : SealedKey) (p : SealedUnder f a) (q : SealedUnder f b)
      → (compared a b).order ≡ ordering_then (number_order (length p.key) (length q.key)) (row_order p.key q.key)
  order_is a b p q =
      ap (λ k. (compared k b).order) p.is ∙ ap (λ k. (compared (sealed f p.key) k).order) q.is
      ∙ sealed_order p.key q.key p.key_bytes q.key_bytes p.key_width q.key_width

  pub sealed_flips : (a b : SealedKey) → SealedUnder f a → SealedUnder f b → (compared a b).order ≡ ordering_reverse (compared b a).order
  sealed_flips a b p q =
      order_is a b p q
      ∙ then_flips (number_order (length p.key) (length q.key)) (row_order p.key q.key) (number_order (length q.key) (length p.key)) (row_order q.key p.key) (nat_cmp_total.antisymm (length p.key) (length q.key)) (nat_list_cmp_total.antisymm p.key q.key)
      ∙ ap ordering_reverse (sym (order_is b a q p))

  pub sealed_chains : (a b c : SealedKey) → SealedUnder f a → SealedUnder f b → SealedUnder f c → (compared a b).order ≡ Less → (compared b c).order ≡ Less → (compared a c).order ≡ Less
  sealed_chains a b c p q r ab bc =
      let lp = length p.key in
      let lq = length q.key in
      let lr = length r.key in
      order_is a c p r
      ∙ then_chains (number_order lp lq) (number_order lq lr) (number_order lp lr) (row_order p.key q.key) (row_order q.key r.key) (row_order p.key r.key)
      (nat_cmp_total.trans lp lq lr) (λ e. ap (λ n. number_order n lr) (nat_cmp-IsAntisymmetric lp lq e)) (λ e. ap (number_order lp) (sym (nat_cmp-IsAntisymmetric lq lr e)))
      (nat_list_cmp_total.trans p.key q.key r.key) (sym (order_is a b p q) ∙ ab) (sym (order_is b c q r) ∙ bc)

  pub sealed_same : (a b : SealedKey) → SealedUnder f a → SealedUnder f b → (compared a b).order ≡ Equal → a ≡ b
  sealed_same a b p q e =
      let both = then_same (number_order (length p.key) (length q.key)) (row_order p.key q.key) (sym (order_is a b p q) ∙ e) in
      p.is ∙ ap (sealed f) (slice_cmp-IsAntisymmetric nat_cmp-IsAntisymmetric p.key q.key both.1) ∙ sym q.is
