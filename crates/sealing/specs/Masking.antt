-- Order-revealing encryption of bit lists (Chenette, Lewi, Weis and Wu, 2016), under a mask function f.
use Rattle.std.specs.Prelude.{ℕ, ◌+◌, ◌%◌, Bool, true, false, cond, List, [], ◌∷◌, ◌++◌, Some, None, Option, ◌==◌}
use mir.Val.{bool_byte}
use Rattle.digits.specs.Positional.{packed}

-- the trits of bits that follow others: each is the mask of the bits before it, plus the bit, modulo 3
abbrev pub masked : (List Bool → ℕ) → List Bool → List Bool → List ℕ
masked f before [] = []
masked f before (bit ∷ bits) = ((f before + bool_byte bit) % 3) ∷ masked f (before ++ bit ∷ []) bits

-- the bits behind trits, after those found before: each trit is its mask, which gives 0, or its mask plus 1 modulo 3, which gives 1
abbrev pub unmasked : (List Bool → ℕ) → List Bool → List ℕ → Option (List Bool)
unmasked f before [] = Some before
unmasked f before (trit ∷ trits) =
    cond (trit == f before) (unmasked f (before ++ false ∷ []) trits)
    (cond (trit == (f before + 1) % 3) (unmasked f (before ++ true ∷ []) trits) None)

-- 52 bytes of trits, five to a byte, the first weighing 81, then 27, 9, 3 and 1; missing trits at the end are 0
unfoldable pub packed_trits : List ℕ → List ℕ
packed_trits ts = packed 3 5 52 ts
