-- Taking in sealed keys: what is sealed can be taken in, and packing the trits of what was taken in gives it again.
use Rattle.std.proofs.Common.{◌≡◌, ℕ, zero, suc, ◌+◌, ◌-◌, ◌*◌, ◌<◌, ◌≤◌, Bool, true, ◌&&◌, eqb, leb, List, [], ◌∷◌, ◌++◌, length, take, drop, replicate, Ok, sym, refl, ap, ◌∙◌, arith, lit<}
use Rattle.std.specs.List.{AllByRecursion}
use Rattle.digits.proofs.Every.{all_append, all_take}
use Rattle.std.proofs.lemmas.List.{append-nil, length-append, length-replicate, length-take-le, drop_all, drop-append-le, drop_at, drop-take, take-append-drop, take-replicate, replicate-append-replicate}
use Rattle.std.proofs.lemmas.Bool.{and_from, and_parts, eqb-true, le-leb, leb-true}
use Rattle.digits.specs.Positional.{bits, trits, packed, all_zero}
use Rattle.digits.proofs.Packing.{length_bits, length_packed, length_unpacked, packed_lt, packed_nil, packed_unpacked}
use Rattle.digits.proofs.Zeros.{packed_drop, packed_zeros, unpacked_append, unpacked_take, unpacked_zeros}
use Rattle.keys.specs.Kinds.{Served, served}
use Rattle.keys.specs.Refusals.{asked}
use Rattle.keys.specs.Questions.{asked_ok, served_from_test}
use Rattle.sealing.specs.declared.records.SealedKey.{SealedKey}
use Rattle.sealing.specs.Masking.{masked, packed_trits}
use Rattle.sealing.specs.Sealed.{sealed, packed_length, record_of, trits_only, take_in_answer}
use Rattle.sealing.proofs.Answering.{take_in_answer_is}
use Rattle.sealing.specs.MaskingLemmas.{length_masked, masked_lt}
use Rattle.sealing.specs.SealedOrder.{sealed_trits}
use Rattle.keys.specs.declared.refusals.Refusal.TheVariants.{KeyLength, NotTrits}

trits_only_of : (bs : List ℕ) → AllByRecursion (λ b. b < 243) bs → trits_only bs ≡ true
trits_only_of [] h = refl
trits_only_of (b ∷ bs) h = and_from (leb b 242) (trits_only bs) (le-leb b 242 (let small = h.0 in omega arith)) (trits_only_of bs h.1)

trits_only_facts : (bs : List ℕ) → trits_only bs ≡ true → AllByRecursion (λ b. b < 243) bs
trits_only_facts [] e = tt
trits_only_facts (b ∷ bs) e =
    let both = and_parts (leb b 242) (trits_only bs) e in
    let small = leb-true b 242 both.0 in
    (omega arith, trits_only_facts bs both.1)

all_zero_of : (n : ℕ) → all_zero (replicate n 0) ≡ true
all_zero_of zero = refl
all_zero_of (suc n) = all_zero_of n

all_zero_facts : (ts : List ℕ) → all_zero ts ≡ true → ts ≡ replicate (length ts) 0
all_zero_facts [] e = refl
all_zero_facts (t ∷ ts) e =
    let both = and_parts (eqb t 0) (all_zero ts) e in
    ap (λ s. s ∷ ts) (eqb-true t 0 both.0) ∙ ap (λ ss. 0 ∷ ss) (all_zero_facts ts both.1)

-- what is sealed can be taken in
module _ (f : List Bool → ℕ) (key : List ℕ) (s : Served (length key)) where
  abbrev w : ℕ
  w = length key

  abbrev ts : List ℕ
  ts = masked f [] (bits key)

  abbrev bs : List ℕ
  bs = packed 3 5 52 ts

  ts_long : length ts ≡ 8 * w
  ts_long = length_masked f [] (bits key) ∙ length_bits key

  front_long : length (take (packed_length w) bs) ≡ packed_length w
  front_long = let size = length_packed 3 5 52 ts in length-take-le (packed_length w) bs (let upper = s.1 in omega arith)

  front_trits : trits_only (take (packed_length w) bs) ≡ true
  front_trits = trits_only_of (take (packed_length w) bs) (all_take (λ b. b < 243) (packed_length w) bs (packed_lt 3 5 52 ts (lit< tt) (masked_lt f [] (bits key))))

  pads : all_zero (drop (8 * w) (trits (take (packed_length w) bs))) ≡ true
  unfolding sealed packed_trits
  pads =
      let m = packed_length w * 5 - 8 * w in
      let zs = replicate (260 - 8 * w) 0 in
      let upper = s.1 in
      let size : packed_length w * 5 ≡ 8 * w + m = omega arith in
      let whole = unpacked_take 3 5 (packed_length w) bs ∙ ap (take (packed_length w * 5)) (sealed_trits f key upper) ∙ ap (λ n. take n (ts ++ zs)) size in
      ap (λ row. all_zero (drop (8 * w) row)) whole
      ∙ ap all_zero (drop-take (8 * w) m (ts ++ zs) ∙ ap (take m) (drop_at ts zs (8 * w) ts_long) ∙ take-replicate m (260 - 8 * w) 0 (omega arith))
      ∙ all_zero_of m

  front_is_all : take (packed_length w) bs ++ replicate (52 - length (take (packed_length w) bs)) 0 ≡ bs
  front_is_all =
      let none : drop (packed_length w * 5) ts ≡ [] = let long = ts_long in drop_all (packed_length w * 5) ts (omega arith) in
      let back : drop (packed_length w) bs ≡ replicate (52 - packed_length w) 0 = packed_drop 3 5 52 (packed_length w) ts ∙ ap (packed 3 5 (52 - packed_length w)) none ∙ packed_nil 3 5 (52 - packed_length w) in
      ap (λ n. take (packed_length w) bs ++ replicate (52 - n) 0) front_long
      ∙ ap (λ zs. take (packed_length w) bs ++ zs) (sym back) ∙ take-append-drop (packed_length w) bs

  pub sealed_taken_in : take_in_answer (sealed f key).width (take (packed_length (sealed f key).width) (sealed f key).bytes) ≡ Ok (sealed f key)
  unfolding sealed packed_trits
  sealed_taken_in =
      take_in_answer_is w (take (packed_length w) bs) s front_long front_trits pads
      ∙ ap (λ bytes. Ok (record { width = w; bytes = bytes })) front_is_all

-- what was taken in is its first trits, packed again
module _ (w : ℕ) (ps : List ℕ) (k : SealedKey) (told : take_in_answer w ps ≡ Ok k) where
  abbrev first_asked : Bool
  first_asked = served w && eqb (length ps) (packed_length w)

  abbrev then_asked : Bool
  then_asked = trits_only ps && all_zero (drop (8 * w) (trits ps))

  answers : (served w ≡ true) × (length ps ≡ packed_length w) × (trits_only ps ≡ true) × (all_zero (drop (8 * w) (trits ps)) ≡ true) × (k ≡ record_of w ps)
  answers =
      let first = asked_ok first_asked KeyLength (asked then_asked NotTrits (Ok (record_of w ps))) k told in
      let second = asked_ok then_asked NotTrits (Ok (record_of w ps)) k first.1 in
      let widths = and_parts (served w) (eqb (length ps) (packed_length w)) first.0 in
      let rest = and_parts (trits_only ps) (all_zero (drop (8 * w) (trits ps))) second.0 in
      let is_record : k ≡ record_of w ps = cc second.1 in
      (widths.0, eqb-true (length ps) (packed_length w) widths.1, rest.0, rest.1, is_record)

  bytes_long : length (ps ++ replicate (52 - length ps) 0) ≡ 52
  bytes_long =
      let upper = (served_from_test w answers.0).1 in
      let long = answers.1 in
      length-append ps (replicate (52 - length ps) 0) ∙ ap (λ n. length ps + n) (length-replicate (52 - length ps) 0) ∙ omega arith

  pub taken_in_length : length k.bytes ≡ 52
  taken_in_length = ap (λ r. length r.bytes) answers.4 ∙ bytes_long

  pub taken_in_repacks : packed_trits (take (8 * w) (trits k.bytes)) ≡ k.bytes
  unfolding packed_trits
  taken_in_repacks =
      let upper = (served_from_test w answers.0).1 in
      let long = answers.1 in
      let bytes = ps ++ replicate (52 - length ps) 0 in
      let small : AllByRecursion (λ b. b < 243) bytes = all_append (λ b. b < 243) ps (replicate (52 - length ps) 0) (trits_only_facts ps answers.2) (zeros_small (52 - length ps)) in
      let size = length_unpacked 3 5 ps in
      let split : trits bytes ≡ trits ps ++ replicate ((52 - length ps) * 5) 0 = unpacked_append 3 5 ps (replicate (52 - length ps) 0) ∙ ap (λ zs. trits ps ++ zs) (unpacked_zeros 3 5 (52 - length ps)) in
      let within : 8 * w ≤ length (trits ps) = omega arith in
      let behind : drop (8 * w) (trits bytes) ≡ replicate (length (drop (8 * w) (trits ps)) + (52 - length ps) * 5) 0 =
      ap (drop (8 * w)) split ∙ drop-append-le (8 * w) (trits ps) (replicate ((52 - length ps) * 5) 0) within
      ∙ ap (λ front. front ++ replicate ((52 - length ps) * 5) 0) (all_zero_facts (drop (8 * w) (trits ps)) answers.3)
      ∙ replicate-append-replicate (length (drop (8 * w) (trits ps))) ((52 - length ps) * 5) 0 in
      let whole : trits bytes ≡ take (8 * w) (trits bytes) ++ replicate (length (drop (8 * w) (trits ps)) + (52 - length ps) * 5) 0 =
      sym (take-append-drop (8 * w) (trits bytes)) ∙ ap (λ back. take (8 * w) (trits bytes) ++ back) behind in
      let again : packed 3 5 52 (trits bytes) ≡ bytes = ap (λ n. packed 3 5 n (trits bytes)) (sym bytes_long) ∙ ap (packed 3 5 (length bytes)) (sym (append-nil (trits bytes))) ∙ packed_unpacked 3 5 bytes [] (lit< tt) small in
      let bytes_are : k.bytes ≡ bytes = ap (λ r. r.bytes) answers.4 in
      rw bytes_are
      (sym (packed_zeros 3 5 52 (take (8 * w) (trits bytes)) (length (drop (8 * w) (trits ps)) + (52 - length ps) * 5)) ∙ ap (packed 3 5 52) (sym whole) ∙ again)
    where
      zeros_small : (n : ℕ) → AllByRecursion (λ b. b < 243) (replicate n 0)
      zeros_small zero = tt
      zeros_small (suc n) = (lit< tt, zeros_small n)
