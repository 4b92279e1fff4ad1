-- Comparing trits one by one.
use Rattle.std.proofs.Common.{◌≡◌, ℕ, zero, suc, ◌+◌, ◌-◌, ◌*◌, ◌/◌, ◌%◌, ◌^◌, ◌<◌, ◌≤◌, Some, None, Option, Equal, cond, eqb, List, [], ◌∷◌, length, get_or, Less, Greater, sym, refl, ap, ◌∙◌, ⊎_elim, arith}
use Rattle.std.proofs.lemmas.Bool.{cases_lt, cond-true, cond-false, eq-eqb, ne_eqb}
use Rattle.std.specs.Option.{option_map, IfSome, IsSomeAnd, MatchOption}
use Rattle.std.specs.Bool.{IsTrue}
use Rattle.std.specs.Fn.{Called}
use Rattle.std.specs.declared.ops.Range.{Range}
use Rattle.std.specs.Iterator.Runs.{SomeRun, CallKeepsClosure, AllItemsGive, IsFirstToGive}
use Rattle.std.proofs.iter.Yields.{nat_range_steps}
use Rattle.std.proofs.iter.runs.Sources.{range_runs}
use denote.Param.Members.{Mut}
use Rattle.digits.specs.Positional.{trits}
use Rattle.digits.proofs.Packing.{digit_at}
use Rattle.sealing.specs.Compared.{decided, trits_compared, FirstDifference}

-- what comparing gives from a place on, where rows of one length nowhere differ
none_from : (from : ℕ) (xs ys : List ℕ) → length xs ≡ length ys → ((k : ℕ) → k < length xs → get_or xs k 0 ≡ get_or ys k 0) → trits_compared from xs ys ≡ decided Equal 0
none_from from [] ys e same = refl
none_from from (x ∷ xs) [] e same = refl
none_from from (x ∷ xs) (y ∷ ys) e same =
    cond-true (eqb x y) _ _ (eq-eqb x y (same 0 (omega arith))) ∙ none_from (suc from) xs ys (omega arith) (λ k h. same (suc k) (omega arith))

-- and where they differ first at k
one_from : (from k : ℕ) (xs ys : List ℕ) → k < length xs → k < length ys → ((j : ℕ) → j < k → get_or xs j 0 ≡ get_or ys j 0) → (get_or xs k 0 ≡ get_or ys k 0 → ⊥)
    → trits_compared from xs ys ≡ decided (cond (eqb (get_or ys k 0) ((get_or xs k 0 + 1) % 3)) Less Greater) (k + from)
one_from from k [] ys in_xs in_ys same differ = absurd (omega arith)
one_from from k (x ∷ xs) [] in_xs in_ys same differ = absurd (omega arith)
one_from from zero (x ∷ xs) (y ∷ ys) in_xs in_ys same differ =
    cond-false (eqb x y) _ _ (ne_eqb x y differ) ∙ ap (decided (cond (eqb y ((x + 1) % 3)) Less Greater)) (omega arith)
one_from from (suc k) (x ∷ xs) (y ∷ ys) in_xs in_ys same differ =
    cond-true (eqb x y) _ _ (eq-eqb x y (same 0 (omega arith)))
    ∙ one_from (suc from) k xs ys (omega arith) (omega arith) (λ j h. same (suc j) (omega arith)) differ
    ∙ ap (decided (cond (eqb (get_or ys k 0) ((get_or xs k 0 + 1) % 3)) Less Greater)) (omega arith)

-- what comparing gives, by the first difference
module _ (xs ys : List ℕ) (n : ℕ) (in_xs : length xs ≡ n) (in_ys : length ys ≡ n) where
  pub none_differs : FirstDifference xs ys 0 n None → trits_compared 1 xs ys ≡ decided Equal 0
  none_differs same = none_from 1 xs ys (omega arith) (λ k h. same k (omega arith) (omega arith))

  pub one_differs : (place : ℕ) → FirstDifference xs ys 0 n (Some place)
      → trits_compared 1 xs ys ≡ decided (cond (eqb (get_or ys place 0) ((get_or xs place 0 + 1) % 3)) Less Greater) (place + 1)
  one_differs place told =
      one_from 1 place xs ys (omega (arith, told.1)) (omega (arith, told.1)) (λ j h. told.3 j (omega arith) h) told.2

module _ (a b : List ℕ) (i : ℕ) (in_a : i < length a) (in_b : i < length b) where
  -- equal bytes have equal trits
  pub same_byte : get_or a i 0 ≡ get_or b i 0 → (k : ℕ) → 5 * i ≤ k → k < 5 * i + 5 → get_or (trits a) k 0 ≡ get_or (trits b) k 0
  same_byte e k low high =
      digit_at 3 5 a k i (k - 5 * i) (omega arith) (omega arith) in_a
      ∙ ap (λ byte. byte / 3 ^ (5 - 1 - (k - 5 * i)) % 3) e
      ∙ sym (digit_at 3 5 b k i (k - 5 * i) (omega arith) (omega arith) in_b)

-- what is known of an item is known of the one that stands there
item_at : (o : Option ℕ) (i : ℕ) (P : ℕ → Type 0) → option_map (λ y. y) o ≡ Some i → IfSome o P → P i
item_at None i P e h = absurd cc
item_at (Some j) i P e h = let same : j ≡ i = cc in rw same at h

some_at : (o : Option ℕ) (i : ℕ) (P : ℕ → Type 0) → option_map (λ y. y) o ≡ Some i → IsSomeAnd o P → P i
some_at None i P e h = absurd h
some_at (Some j) i P e h = let same : j ≡ i = cc in rw same at h

-- looking through the bytes in turn, where f looks through one byte
module _ {F : Type 0} (g : Mut F (ℕ × Unit {0}) (Option ℕ)) (f : F) (xs ys : List ℕ)
    (keeps : CallKeepsClosure g f) (tells : (i : ℕ) (r : Option ℕ) → Called g f (i, tt) r f → FirstDifference xs ys (5 * i) (5 * i + 5) r) where
  pub byte_by_byte : (n : ℕ) (s : Range ℕ) → s.start ≡ 0 → s.end ≡ n → (r : Option ℕ)
      → SomeRun nat_range_steps s (λ p. MatchOption r (IsTrue p.whole × AllItemsGive p g f None) (λ y. (i : ℕ) × (i < p.len) × (p.len ≡ i + 1) × IsFirstToGive p g f (Some y) None i))
      → FirstDifference xs ys 0 (5 * n) r
  byte_by_byte n s from to None told = λ k low high.
      let p = told.0 in
      let counts = range_runs p p.seen in
      let start = ap (λ (q : Range ℕ). q.start) told.1 ∙ from in
      let end = ap (λ (q : Range ℕ). q.end) told.1 ∙ to in
      let i = k / 5 in
      let here : option_map (λ y. y) (p.at i) ≡ Some i = counts.3 i (omega (arith, counts.1 told.2.0, start, end)) ∙ ap Some (omega (arith, start)) in
      tells i None (item_at (p.at i) i (λ x. Called g f (x, tt) None f) here (told.2.1 keeps i)) k (omega arith) (omega arith)
  byte_by_byte n s from to (Some place) told =
      let p = told.0 in
      let counts = range_runs p p.seen in
      let start = ap (λ (q : Range ℕ). q.start) told.1 ∙ from in
      let end = ap (λ (q : Range ℕ). q.end) told.1 ∙ to in
      let i = told.2.0 in
      let item : (j : ℕ) → j < p.len → option_map (λ y. y) (p.at j) ≡ Some j = λ j h. counts.3 j h ∙ ap Some (omega (arith, start)) in
      let first = told.2.3 keeps in
      let here = tells i (Some place) (some_at (p.at i) i (λ x. Called g f (x, tt) (Some place) f) (item i told.2.1) first.0) in (
        omega arith,
        omega (arith, here.1, told.2.1, counts.0, start, end),
        here.2,
        λ k low high.
            ⊎_elim
            (λ before. let j = k / 5 in tells j None (some_at (p.at j) j (λ x. Called g f (x, tt) None f) (item j (omega (arith, before, told.2.1))) (first.1 j (omega (arith, before)))) k (omega arith) (omega arith))
            (λ behind. here.3 k behind high)
            (cases_lt k (5 * i)),
      )
