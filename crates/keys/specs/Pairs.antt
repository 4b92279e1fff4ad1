-- The width and the reading of a pair.
use Rattle.std.specs.Prelude.{ℕ, ◌+◌, cond, ◌&&◌, List, take, drop, Some, None, Option, nat_le}
use Rattle.keys.specs.Kinds.{served}

-- both parts and their sum have to be 1 to 32 bytes wide; 33 stands for a pair that no book or cipher serves
abbrev pub pair_width : ℕ → ℕ → ℕ
pair_width v w = cond (served v && (served w && nat_le (v + w) 32)) (v + w) 33

-- both values, where both are there
abbrev pub both : {A B P : Type 0} → (A → B → P) → Option A → Option B → Option P
both pair None b = None
both pair (Some x) None = None
both pair (Some x) (Some y) = Some (pair x y)

-- the first v bytes write the first part, and the others the second
abbrev pub pair_decoded : {A B P : Type 0} → (A → B → P) → ℕ → (List ℕ → Option A) → (List ℕ → Option B) → List ℕ → Option P
pair_decoded pair v decode_first decode_second key = both pair (decode_first (take v key)) (decode_second (drop v key))
