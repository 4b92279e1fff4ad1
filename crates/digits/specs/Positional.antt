-- Positional notation: the digits of a number, and rows of digits packed into numbers, the most significant first.
use Rattle.std.specs.Prelude.{ℕ, zero, suc, ◌+◌, ◌*◌, ◌/◌, ◌%◌, ◌^◌, Bool, List, [], ◌∷◌, ◌++◌, map, drop, ◌==◌, nat_eq}
use Rattle.std.specs.List.{list_all}

-- the k last digits of a number in a radix, the most significant first
abbrev pub digits : ℕ → ℕ → ℕ → List ℕ
digits radix zero n = []
digits radix (suc k) n = (n / radix ^ k % radix) ∷ digits radix k n

-- the number that the first k digits write; missing digits at the end are 0
abbrev pub weighed : ℕ → ℕ → List ℕ → ℕ
weighed radix zero ds = 0
weighed radix (suc k) [] = 0
weighed radix (suc k) (d ∷ ds) = d * radix ^ k + weighed radix k ds

-- all the digits of a row of numbers, k of each
abbrev pub unpacked : ℕ → ℕ → List ℕ → List ℕ
unpacked radix k [] = []
unpacked radix k (n ∷ ns) = digits radix k n ++ unpacked radix k ns

-- `count` numbers of k digits each; missing digits at the end are 0
abbrev pub packed : ℕ → ℕ → ℕ → List ℕ → List ℕ
packed radix k zero ds = []
packed radix k (suc count) ds = weighed radix k ds ∷ packed radix k count (drop k ds)

-- the bits of bytes, the most significant of the first byte first
abbrev pub bits : List ℕ → List Bool
bits bytes = map (λ d. nat_eq d 1) (unpacked 2 8 bytes)

-- the trits of bytes, five to a byte: the first weighs 81, then 27, 9, 3 and 1
abbrev pub trits : List ℕ → List ℕ
trits bytes = unpacked 3 5 bytes

-- is each of these digits 0?
abbrev pub all_zero : List ℕ → Bool
all_zero = list_all (λ d. d == 0)
