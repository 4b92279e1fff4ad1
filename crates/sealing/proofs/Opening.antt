-- Opening gives back exactly what was sealed.
use Rattle.std.proofs.Common.{◌≡◌, ℕ, ◌+◌, ◌-◌, ◌*◌, ◌%◌, ◌<◌, ◌≤◌, Bool, true, false, eqb, List, [], ◌∷◌, ◌++◌, map, length, take, replicate, Some, None, Ok, Option, sym, refl, ap, ◌∙◌, ⊎_elim, arith, lit<}
use mir.Val.{bool_byte}
use Rattle.std.proofs.lemmas.List.{append_assoc, append-nil, length-take-le, take_at}
use Rattle.std.proofs.lemmas.Bool.{cond-true, cond-false, eq-eqb, ne_eqb, eqb-true, cases_Bool}
use Rattle.digits.specs.Positional.{bits, trits}
use Rattle.digits.proofs.Bits.{bits_of_packed, bits_small, bytes_of_bits}
use Rattle.digits.proofs.Packing.{length_bits, length_packed, length_unpacked, packed_lt}
use Rattle.keys.specs.Kinds.{Bytes, Served, value_asked}
use Rattle.keys.specs.Questions.{asked_ok}
use Rattle.sealing.specs.declared.records.SealedKey.{SealedKey}
use Rattle.sealing.specs.Masking.{masked, packed_trits, unmasked}
use Rattle.sealing.specs.Sealed.{sealed, TakenIn}
use Rattle.sealing.specs.Opened.{bytes_of, bits_asked, open_answer}
use Rattle.sealing.proofs.Answering.{cipher_asked_ok, open_answer_is}
use Rattle.sealing.specs.MaskingLemmas.{length_masked}
use Rattle.sealing.specs.SealedOrder.{sealed_trits}
use Rattle.sealing.proofs.TakenIn.{taken_in_length, taken_in_repacks}
use Rattle.keys.specs.declared.refusals.Refusal.TheVariants.{OtherWidth}

module _ (f : List Bool → ℕ) (small : (list : List Bool) → f list < 3) where
  -- the trits of bits give the bits back
  unmasked_masked : (before xs : List Bool) → unmasked f before (masked f before xs) ≡ Some (before ++ xs)
  unmasked_masked before [] = ap (λ bs. Some bs) (sym (append-nil before))
  unmasked_masked before (false ∷ xs) =
      let m_small = small before in
      let same : (f before + 0) % 3 ≡ f before = omega arith in
      cond-true (eqb ((f before + 0) % 3) (f before)) _ _ (eq-eqb ((f before + 0) % 3) (f before) same)
      ∙ unmasked_masked (before ++ false ∷ []) xs ∙ ap (λ bs. Some bs) (append_assoc before (false ∷ []) xs)
  unmasked_masked before (true ∷ xs) =
      let m_small = small before in
      let differs : (f before + 1) % 3 ≡ f before → ⊥ = λ e. omega arith in
      cond-false (eqb ((f before + 1) % 3) (f before)) _ _ (ne_eqb ((f before + 1) % 3) (f before) differs)
      ∙ cond-true (eqb ((f before + 1) % 3) ((f before + 1) % 3)) _ _ (eq-eqb ((f before + 1) % 3) ((f before + 1) % 3) refl)
      ∙ unmasked_masked (before ++ true ∷ []) xs ∙ ap (λ bs. Some bs) (append_assoc before (true ∷ []) xs)

  -- the bits found behind trits make these trits
  masked_unmasked : (before : List Bool) (ts : List ℕ) (found : List Bool) → unmasked f before ts ≡ Some found → (rest : List Bool) × (found ≡ before ++ rest) × (masked f before rest ≡ ts)
  masked_unmasked before [] found e = let same : before ≡ found = cc in ([], sym same ∙ sym (append-nil before), refl)
  masked_unmasked before (t ∷ ts) found e =
      ⊎_elim
      (λ low.
      let later = masked_unmasked (before ++ false ∷ []) ts found (sym (cond-true (eqb t (f before)) _ _ low) ∙ e) in
      let m_small = small before in
      let t_is = eqb-true t (f before) low in
      let trit : (f before + 0) % 3 ≡ t = omega arith in
      (false ∷ later.0, later.1 ∙ append_assoc before (false ∷ []) later.0, ap (λ s. s ∷ masked f (before ++ false ∷ []) later.0) trit ∙ ap (λ ss. t ∷ ss) later.2))
      (λ not_low.
      ⊎_elim
      (λ high.
      let later = masked_unmasked (before ++ true ∷ []) ts found (sym (cond-false (eqb t (f before)) _ _ not_low ∙ cond-true (eqb t ((f before + 1) % 3)) _ _ high) ∙ e) in
      (true ∷ later.0, later.1 ∙ append_assoc before (true ∷ []) later.0, ap (λ s. s ∷ masked f (before ++ true ∷ []) later.0) (sym (eqb-true t ((f before + 1) % 3) high)) ∙ ap (λ ss. t ∷ ss) later.2))
      (λ not_high.
      let none : None ≡ Some found = sym (cond-false (eqb t (f before)) _ _ not_low ∙ cond-false (eqb t ((f before + 1) % 3)) _ _ not_high) ∙ e in
      absurd cc)
      (cases_Bool (eqb t ((f before + 1) % 3))))
      (cases_Bool (eqb t (f before)))

  -- what seals to a key is what opens from it
  module _ {V : Type 0} (decode : List ℕ → Option V) (scratch : ℕ) where
    pub opens_sealed : (key : List ℕ) → Bytes key → Served (length key) → 32 ≤ scratch → open_answer f (length key) decode scratch (sealed f key) ≡ value_asked (decode key)
    unfolding sealed
    opens_sealed key key_bytes s room =
        let size : length (masked f [] (bits key)) ≡ 8 * length key = length_masked f [] (bits key) ∙ length_bits key in
        let front = ap (take (8 * length key)) (sealed_trits f key s.1) ∙ take_at (masked f [] (bits key)) (replicate (260 - 8 * length key) 0) (8 * length key) size in
        open_answer_is f (length key) decode scratch (sealed f key) s room refl
        ∙ ap (λ ts. bits_asked (unmasked f [] ts) (λ bs. value_asked (decode (bytes_of (length key) bs)))) front
        ∙ ap (λ found. bits_asked found (λ bs. value_asked (decode (bytes_of (length key) bs)))) (unmasked_masked [] (bits key))
        ∙ ap (λ bytes. value_asked (decode bytes)) (bytes_of_bits key key_bytes)

    module _ (w : ℕ) (k : SealedKey) (v : V) (told : open_answer f w decode scratch k ≡ Ok v) where
      pub opened_served : Served w
      opened_served = (cipher_asked_ok w scratch _ v told).0

      abbrev found : Option (List Bool)
      found = unmasked f [] (take (8 * w) (trits k.bytes))

      opened_rest : (eqb k.width w ≡ true) × (bits_asked found (λ bs. value_asked (decode (bytes_of w bs))) ≡ Ok v)
      opened_rest =
          asked_ok (eqb k.width w) OtherWidth _ v (cipher_asked_ok w scratch _ v told).2

      from_bits : (o : Option (List Bool)) → bits_asked o (λ bs. value_asked (decode (bytes_of w bs))) ≡ Ok v → (bs : List Bool) × (o ≡ Some bs) × (decode (bytes_of w bs) ≡ Some v)
      from_bits None e = absurd cc
      from_bits (Some bs) e = (bs, refl, from_value (decode (bytes_of w bs)) e)
        where
          from_value : (o : Option V) → value_asked o ≡ Ok v → o ≡ Some v
          from_value None e' = absurd cc
          from_value (Some u) e' = let same : u ≡ v = cc in ap (λ x. Some x) same

      -- the key bytes that were opened write the value, and seal to the key
      pub opened_seals : TakenIn k → (key : List ℕ) × Bytes key × (decode key ≡ Some v) × (sealed f key ≡ k)
      unfolding sealed
      opened_seals taken =
          let bits_found = from_bits found opened_rest.1 in
          let bs = bits_found.0 in
          let made = masked_unmasked [] (take (8 * w) (trits k.bytes)) bs bits_found.1 in
          let same_bits : bs ≡ made.0 = made.1 in
          let width_is : k.width ≡ w = eqb-true k.width w opened_rest.0 in
          let repacked : packed_trits (take (8 * w) (trits k.bytes)) ≡ k.bytes = ap (λ n. packed_trits (take (8 * n) (trits k.bytes))) (sym width_is) ∙ taken_in_repacks k.width taken.0 k taken.1 in
          let upper = opened_served.1 in
          let all_long = taken_in_length k.width taken.0 k taken.1 in
          let all_trits = length_unpacked 3 5 k.bytes in
          let long : length bs ≡ 8 * w = ap length same_bits ∙ sym (length_masked f [] made.0) ∙ ap length made.2 ∙ length-take-le (8 * w) (trits k.bytes) (omega arith) in
          let key = bytes_of w bs in
          let size : length key ≡ w = length_packed 2 8 w (map bool_byte bs) in
          let bytes_same : packed_trits (masked f [] (bits key)) ≡ k.bytes = ap (λ list. packed_trits (masked f [] list)) (bits_of_packed w bs long ∙ same_bits) ∙ ap packed_trits made.2 ∙ repacked in (
            key,
            packed_lt 2 8 w (map bool_byte bs) (lit< tt) (bits_small bs),
            bits_found.2,
            (λ i. record { width = (size ∙ sym width_is) i; bytes = bytes_same i }),
          )
