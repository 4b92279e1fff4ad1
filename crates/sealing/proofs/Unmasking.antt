-- Finding bits behind trits one by one.
use Rattle.std.proofs.Common.{◌≡◌, ℕ, ◌+◌, ◌-◌, ◌*◌, ◌/◌, ◌%◌, ◌^◌, ◌<◌, ◌≤◌, Bool, true, false, cond, eqb, List, [], ◌∷◌, ◌++◌, map, length, get_or, take, drop, set, replicate, None, Ok, Err, Option, Result, sym, refl, ap, ◌∙◌, arith, lit<}
use mir.Val.{bool_byte}
use Rattle.std.proofs.lemmas.List.{drop_more, get_or-take, length-map, length_push, length-take-le, map_push}
use Rattle.digits.specs.Positional.{packed, trits}
use Rattle.digits.proofs.Bits.{bit_small, bits_small}
use Rattle.digits.proofs.Packing.{length_unpacked, packed_nil, packed_push, push_fits}
use Rattle.sealing.specs.Masking.{unmasked}
use Rattle.sealing.specs.Opened.{bytes_of, trit_answer}
use Rattle.keys.specs.declared.refusals.Refusal.{Refusal}
use Rattle.keys.specs.declared.refusals.Refusal.TheVariants.{OtherSecret}

-- a trit that gives a bit goes on with it; one that gives none ends
by_bit : {X : Type 0} (low high : Bool) (bit : Bool) (next : Bool → X) (none : X)
    → ◌≡◌ {A = Result Bool Refusal} (Ok bit) (cond low (Ok false) (cond high (Ok true) (Err OtherSecret))) → cond low (next false) (cond high (next true) none) ≡ next bit
by_bit true high bit next none e = let same : bit ≡ false = cc in ap next (sym same)
by_bit false true bit next none e = let same : bit ≡ true = cc in ap next (sym same)
by_bit false false bit next none e = absurd cc

by_none : {X : Type 0} (low high : Bool) (refusal : Refusal) (next : Bool → X) (none : X)
    → ◌≡◌ {A = Result Bool Refusal} (Err refusal) (cond low (Ok false) (cond high (Ok true) (Err OtherSecret))) → (cond low (next false) (cond high (next true) none) ≡ none) × (refusal ≡ OtherSecret)
by_none true high refusal next none e = absurd cc
by_none false true refusal next none e = absurd cc
by_none false false refusal next none e = let same : refusal ≡ OtherSecret = cc in (refl, same)

-- the trits of w key bytes
abbrev pub first_trits : ℕ → List ℕ → List ℕ
first_trits w sealed = take (8 * w) (trits sealed)

-- what opening has come to after i bits: the source has walked those found, unless they are all there are; they stand
-- in the key bytes; and unmasking from here on gives what unmasking from the start gives
pub record OpenedSoFar (f : List Bool → ℕ) (sealed : List ℕ) (w i : ℕ) (walked : List Bool) (key : List ℕ) : Type 0 where
  pub found : List Bool
  pub long : length found ≡ i
  pub along : i < 8 * w → walked ≡ found
  pub written : key ≡ bytes_of w found
  pub ahead : unmasked f found (drop i (first_trits w sealed)) ≡ unmasked f [] (first_trits w sealed)

module _ (f : List Bool → ℕ) (sealed : List ℕ) (w : ℕ) where
  pub nothing_opened : (walked : List Bool) (key : List ℕ) → walked ≡ [] → key ≡ replicate w 0 → OpenedSoFar f sealed w 0 walked key
  nothing_opened walked key start zeros =
      record { found = []; long = refl; along = λ _. start; written = zeros ∙ sym (packed_nil 2 8 w); ahead = refl }

  module _ (i : ℕ) (walked : List Bool) (key : List ℕ) (so_far : OpenedSoFar f sealed w i walked key)
      (served : w ≤ 32) (whole : length sealed ≡ 52) where
    size : length (first_trits w sealed) ≡ 8 * w
    size = let all = length_unpacked 3 5 sealed in length-take-le (8 * w) (trits sealed) (omega arith)

    module _ (within : i < 8 * w) (trit mask : ℕ) (trit_is : trit ≡ get_or (trits sealed) i 0) (mask_is : mask ≡ f walked) where
      abbrev next : Bool → Option (List Bool)
      next bit = unmasked f (so_far.found ++ bit ∷ []) (drop (i + 1) (first_trits w sealed))

      at_trit : unmasked f [] (first_trits w sealed) ≡ cond (eqb trit mask) (next false) (cond (eqb trit ((mask + 1) % 3)) (next true) None)
      at_trit =
          let here : trit ≡ get_or (first_trits w sealed) i 0 = trit_is ∙ sym (get_or-take (8 * w) (trits sealed) i 0 within) in
          let masked_by : mask ≡ f so_far.found = mask_is ∙ ap f (so_far.along within) in
          let inside : i < length (first_trits w sealed) = let s = size in omega arith in
          sym so_far.ahead ∙ ap (unmasked f so_far.found) (drop_more (first_trits w sealed) i 0 inside) ∙ rw (masked_by, here) refl

      -- a trit that is neither its mask nor the one after it
      pub no_bit_behind : (refusal : Refusal) → Err refusal ≡ trit_answer trit mask → (unmasked f [] (first_trits w sealed) ≡ None) × (refusal ≡ OtherSecret)
      no_bit_behind refusal told =
          let none = by_none (eqb trit mask) (eqb trit ((mask + 1) % 3)) refusal next None told in
          (at_trit ∙ none.0, none.1)

      -- a bit found: it is added, by its weight, to the byte that it falls into
      module _ (bit : Bool) (weighed : ℕ) (weighed_is : weighed ≡ bool_byte bit * 2 ^ (8 - 1 - i % 8)) where
        digits_long : length (map bool_byte so_far.found) ≡ i / 8 * 8 + i % 8
        digits_long = length-map so_far.found bool_byte ∙ so_far.long ∙ omega arith

        pub written_fits : get_or key (i / 8) 0 + weighed < 256
        written_fits =
            rw (so_far.written, weighed_is)
            (push_fits 2 8 w (i / 8) (i % 8) (map bool_byte so_far.found) (bool_byte bit) (lit< tt) (omega arith) (omega arith) digits_long (bits_small so_far.found) (bit_small bit))

        writes_next : set key (i / 8) (get_or key (i / 8) 0 + weighed) ≡ bytes_of w (so_far.found ++ bit ∷ [])
        writes_next =
            rw (so_far.written, weighed_is)
            (sym (ap (packed 2 8 w) (map_push bool_byte so_far.found bit) ∙ packed_push 2 8 w (i / 8) (i % 8) (map bool_byte so_far.found) (bool_byte bit) (omega arith) (omega arith) digits_long))

        pub one_more_opened : Ok bit ≡ trit_answer trit mask → (after : List Bool) → (i + 1 < 8 * w → after ≡ walked ++ bit ∷ [])
            → OpenedSoFar f sealed w (i + 1) after (set key (i / 8) (get_or key (i / 8) 0 + weighed))
        one_more_opened told after stepped =
            record {
              found = so_far.found ++ bit ∷ [];
              long = length_push so_far.found bit ∙ ap (λ n. n + 1) so_far.long;
              along = λ more. stepped more ∙ ap (λ list. list ++ bit ∷ []) (so_far.along within);
              written = writes_next;
              ahead = sym (at_trit ∙ by_bit (eqb trit mask) (eqb trit ((mask + 1) % 3)) bit next None told);
            }
        -- all bits found
