-- Masking bits one by one.
use Rattle.std.specs.Prelude.{◌≡◌, ℕ, suc, ◌+◌, ◌-◌, ◌*◌, ◌/◌, ◌%◌, ◌^◌, ◌<◌, ◌≤◌, Bool, false, List, [], ◌∷◌, ◌++◌, length, get_or, take, set, replicate, slice_index, slice_index_or, slice_set}
use Rattle.std.proofs.Math.Path.{refl}
use Rattle.std.proofs.Common.{sym, ap, ◌∙◌, mod-lt, arith, lit<}
use mir.Val.{bool_byte}
use Rattle.std.specs.List.{AllByRecursion}
use Rattle.std.proofs.lemmas.List.{append_assoc, append-nil, take_all, take_more, length-take-le}
use Rattle.digits.specs.Positional.{bits, packed}
use Rattle.digits.proofs.Packing.{packed_push, push_fits, length_bits}
use Rattle.sealing.specs.Masking.{masked, packed_trits}

module _ (f : List Bool → ℕ) where
  pub masked_push : (before xs : List Bool) (b : Bool) → masked f before (xs ++ b ∷ []) ≡ masked f before xs ++ ((f (before ++ xs) + bool_byte b) % 3) ∷ []
  masked_push before [] b = ap (λ bits. ((f bits + bool_byte b) % 3) ∷ []) (sym (append-nil before))
  masked_push before (x ∷ xs) b =
      ap (λ ts. ((f before + bool_byte x) % 3) ∷ ts)
      (masked_push (before ++ x ∷ []) xs b ∙ ap (λ bits. masked f (before ++ x ∷ []) xs ++ ((f bits + bool_byte b) % 3) ∷ []) (append_assoc before (x ∷ []) xs))

  pub length_masked : (before xs : List Bool) → length (masked f before xs) ≡ length xs
  length_masked before [] = refl
  length_masked before (x ∷ xs) = ap suc (length_masked (before ++ x ∷ []) xs)

  pub masked_lt : (before xs : List Bool) → AllByRecursion (λ t. t < 3) (masked f before xs)
  masked_lt before [] = tt
  masked_lt before (x ∷ xs) = (mod-lt (f before + bool_byte x) (lit< tt), masked_lt (before ++ x ∷ []) xs)

-- what sealing has come to after i bits: the source has walked them, unless they are all there are, and their trits are packed
pub record SealedSoFar (f : List Bool → ℕ) (key : List ℕ) (i : ℕ) (walked : List Bool) (trits : List ℕ) : Type 0 where
  pub along : i < 8 * length key → walked ≡ take i (bits key)
  pub packed_so : trits ≡ packed_trits (masked f [] (take i (bits key)))

module _ (f : List Bool → ℕ) (key : List ℕ) where
  pub nothing_sealed : (walked : List Bool) → walked ≡ [] → SealedSoFar f key 0 walked (replicate 52 0)
  unfolding packed_trits
  nothing_sealed walked start = record { along = λ _. start; packed_so = refl }

  module _ (i : ℕ) (walked : List Bool) (trits : List ℕ) (so_far : SealedSoFar f key i walked trits) where
    pub all_sealed : 8 * length key ≤ i → trits ≡ packed_trits (masked f [] (bits key))
    all_sealed end =
        let size = length_bits key in
        so_far.packed_so ∙ ap (λ list. packed_trits (masked f [] list)) (take_all i (bits key) (omega arith))

    module _ (within : i < 8 * length key) where
      pub walked_long : length walked ≡ i
      walked_long = let size = length_bits key in ap length (so_far.along within) ∙ length-take-le i (bits key) (omega arith)

      -- one more bit: its trit is added, by its weight, to the byte that it falls into
      module _ (served : length key ≤ 32) (mask : ℕ) (bit : Bool) (weight : ℕ)
          (mask_is : mask ≡ f walked) (bit_is : bit ≡ slice_index_or (bits key) i false) (weight_is : weight ≡ 3 ^ (5 - 1 - i % 5)) where
        abbrev before : List ℕ
        before = masked f [] (take i (bits key))

        long : length before ≡ i / 5 * 5 + i % 5
        long =
            let size = length_bits key in
            length_masked f [] (take i (bits key)) ∙ length-take-le i (bits key) (omega arith) ∙ omega arith

        next_bit : take i (bits key) ++ bit ∷ [] ≡ take (i + 1) (bits key)
        next_bit =
            let size = length_bits key in
            ap (λ b. take i (bits key) ++ b ∷ []) bit_is ∙ sym (take_more (bits key) i false (omega arith))

        next_trit : masked f [] (take (i + 1) (bits key)) ≡ before ++ ((mask + bool_byte bit) % 3) ∷ []
        next_trit =
            let mask_here : mask ≡ f (take i (bits key)) = mask_is ∙ ap f (so_far.along within) in
            ap (masked f []) (sym next_bit) ∙ masked_push f [] (take i (bits key)) bit ∙ rw mask_here refl

        pub next_fits : get_or trits (i / 5) 0 + (mask + bool_byte bit) % 3 * weight < 243
        unfolding packed_trits
        next_fits =
            rw (so_far.packed_so, weight_is)
            (push_fits 3 5 52 (i / 5) (i % 5) before ((mask + bool_byte bit) % 3) (lit< tt) (omega arith) (omega arith) long (masked_lt f [] (take i (bits key))) (mod-lt (mask + bool_byte bit) (lit< tt)))

        packs_next : set trits (i / 5) (slice_index trits (i / 5) + (mask + bool_byte bit) % 3 * weight) ≡ packed_trits (masked f [] (take (i + 1) (bits key)))
        unfolding packed_trits
        packs_next =
            rw (so_far.packed_so, weight_is)
            (sym (ap (packed 3 5 52) next_trit ∙ packed_push 3 5 52 (i / 5) (i % 5) before ((mask + bool_byte bit) % 3) (omega arith) (omega arith) long))

        pub one_more_sealed : (after : List Bool) → (i + 1 < 8 * length key → after ≡ walked ++ bit ∷ [])
            → SealedSoFar f key (i + 1) after (slice_set trits (i / 5) (slice_index trits (i / 5) + (mask + bool_byte bit) % 3 * weight))
        one_more_sealed after stepped =
            record { along = λ more. stepped more ∙ ap (λ list. list ++ bit ∷ []) (so_far.along within) ∙ next_bit; packed_so = packs_next }
