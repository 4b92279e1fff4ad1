-- Comparing sealed keys.
use Rattle.std.specs.Prelude.{◌≡◌, ℕ, suc, ◌+◌, ◌%◌, ◌<◌, ◌≤◌, Bool, true, false, cond, List, [], ◌∷◌, Option, MatchOption, slice_index, ◌==◌, ◌≢◌, nat_lt, ◌++◌, codes}
use Rattle.std.specs.Fmt.{decimal}
use Rattle.std.specs.declared.cmp.Ordering.TheVariants.{Less, Equal, Greater}
use Rattle.std.specs.declared.cmp.Ordering.{Ordering}
use Rattle.digits.specs.Positional.{trits}
use Rattle.sealing.specs.declared.records.SealedKey.{SealedKey}
use Rattle.sealing.specs.declared.records.Comparison.{Comparison}

-- an order, and the place where it was decided
abbrev pub decided : Ordering → ℕ → Comparison
decided order place = record { order = order; place = place }

-- the first place where trits differ decides, places counted on from the given one:
-- if the second's trit is the first's plus 1 modulo 3, the first is less, otherwise greater
abbrev pub trits_compared : ℕ → List ℕ → List ℕ → Comparison
trits_compared place [] ys = decided Equal 0
trits_compared place (x ∷ xs) [] = decided Equal 0
trits_compared place (x ∷ xs) (y ∷ ys) =
    cond (x == y) (trits_compared (suc place) xs ys) (decided (cond (y == (x + 1) % 3) Less Greater) place)

-- the first place from `low` on and below `high`, from 0, at which two rows differ
abbrev pub FirstDifference : List ℕ → List ℕ → ℕ → ℕ → Option ℕ → Type 0
FirstDifference xs ys low high found =
    MatchOption found ((k : ℕ) → low ≤ k → k < high → slice_index xs k ≡ slice_index ys k)
    (λ place. (low ≤ place) × (place < high) × (slice_index xs place ≢ slice_index ys place) × ((k : ℕ) → low ≤ k → k < place → slice_index xs k ≡ slice_index ys k))

-- a narrower key is less than a wider one, at place 0
abbrev pub compared : SealedKey → SealedKey → Comparison
compared a b =
    cond (nat_lt a.width b.width) (decided Less 0)
    (cond (nat_lt b.width a.width) (decided Greater 0) (trits_compared 1 (trits a.bytes) (trits b.bytes)))

-- the place of the first different bit, places counted on from the given one; 0 where there is none
abbrev pub difference_from : ℕ → List Bool → List Bool → ℕ
difference_from place [] ys = 0
difference_from place (x ∷ xs) [] = 0
difference_from place (true ∷ xs) (true ∷ ys) = difference_from (suc place) xs ys
difference_from place (false ∷ xs) (false ∷ ys) = difference_from (suc place) xs ys
difference_from place (true ∷ xs) (false ∷ ys) = place
difference_from place (false ∷ xs) (true ∷ ys) = place

-- the place of the first different bit, from 1
abbrev pub first_different_bit : List Bool → List Bool → ℕ
first_different_bit xs ys = difference_from 1 xs ys

-- how a comparison is told
abbrev pub order_text : Ordering → List ℕ
order_text Less = codes "less"
order_text Equal = codes "equal"
order_text Greater = codes "greater"

abbrev pub comparison_text : Comparison → List ℕ
comparison_text c = order_text c.order ++ codes " at " ++ decimal c.place
