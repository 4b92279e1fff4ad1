-- The answers of the cipher's calls, once their questions are passed.
use Rattle.std.proofs.Common.{◌≡◌, ℕ, ◌*◌, ◌≤◌, Bool, true, ◌&&◌, eqb, leb, List, [], ◌++◌, length, take, drop, Some, None, Ok, Option, Result, sym, ap, ◌∙◌, arith}
use Rattle.std.proofs.lemmas.List.{take_at, length-append}
use Rattle.std.proofs.lemmas.Bool.{and_from, le-leb, leb-true, eq-eqb}
use Rattle.digits.specs.Positional.{bits, trits, all_zero}
use Rattle.keys.specs.Kinds.{Served, served, written, read_answer, value_asked}
use Rattle.keys.specs.Refusals.{asked}
use Rattle.keys.specs.Questions.{served_from_test, test_from_served, asked_yes, asked_ok, asked_within, written_within, value_from_ok}
use Rattle.sealing.specs.declared.records.SealedKey.{SealedKey}
use Rattle.sealing.specs.Masking.{masked, packed_trits, unmasked}
use Rattle.sealing.specs.Sealed.{sealed, cipher_asked, seal_answer, packed_length, record_of, trits_only, take_in_answer}
use Rattle.sealing.specs.Opened.{bytes_of, found_answer, FoundLeft, bits_asked, open_answer}
use Rattle.keys.specs.declared.refusals.Refusal.{Refusal}
use Rattle.keys.specs.declared.refusals.Refusal.TheVariants.{KindWidth, ShortBuffer, KeyLength, NotTrits, OtherWidth}

pub cipher_asked_yes : {X : Type 0} (w scratch : ℕ) (next : Result X Refusal) → Served w → 32 ≤ scratch → cipher_asked w scratch next ≡ next
cipher_asked_yes w scratch next s room =
    asked_yes (served w) KindWidth (asked (leb 32 scratch) ShortBuffer next) (test_from_served w s) ∙ asked_yes (leb 32 scratch) ShortBuffer next (le-leb 32 scratch room)

-- what was answered at the end was asked with a yes to both
pub cipher_asked_ok : {X : Type 0} (w scratch : ℕ) (next : Result X Refusal) (x : X) → cipher_asked w scratch next ≡ Ok x → Served w × (32 ≤ scratch) × (next ≡ Ok x)
cipher_asked_ok w scratch next x e =
    let first = asked_ok (served w) KindWidth _ x e in
    let second = asked_ok (leb 32 scratch) ShortBuffer next x first.1 in
    (served_from_test w first.0, leb-true 32 scratch second.0, second.1)

-- the key bytes stand in front of a written scratch
written_front : (w : ℕ) (key before : List ℕ) → Served w → w ≤ length before → length key ≡ w → take w (written w key before) ≡ key
written_front w key before s room long =
    ap (take w) (written_within w key before s room)
    ∙ take_at key (drop w before) w long

-- the sealed bytes of what the kind wrote into the scratch
pub seals_what_was_written : (f : List Bool → ℕ) (w : ℕ) (key scratch out bytes : List ℕ) → Served w → 32 ≤ length scratch → length key ≡ w → out ≡ written w key scratch
    → ◌≡◌ {A = Result (List ℕ) Refusal} (Ok bytes) (Ok (packed_trits (masked f [] (bits (take w out)))))
    → ◌≡◌ {A = Result SealedKey Refusal} (Ok (record { width = w; bytes = bytes })) (seal_answer f w (length scratch) key)
unfolding sealed
seals_what_was_written f w key scratch out bytes s room long out_is bytes_are =
    let there : w ≤ length scratch = let upper = s.1 in omega arith in
    let front : take w out ≡ key = ap (take w) out_is ∙ written_front w key scratch s there long in
    let sealed_so : ◌≡◌ {A = SealedKey} (record { width = w; bytes = bytes }) (record { width = length key; bytes = packed_trits (masked f [] (bits key)) }) =
    λ i. record { width = sym long i; bytes = (value_from_ok bytes _ bytes_are ∙ ap (λ k. packed_trits (masked f [] (bits k))) front) i } in
    ap (λ k. Ok k) sealed_so ∙ sym (cipher_asked_yes w (length scratch) _ s room)

pub take_in_answer_is : (w : ℕ) (packed : List ℕ) → Served w → length packed ≡ packed_length w → trits_only packed ≡ true → all_zero (drop (8 * w) (trits packed)) ≡ true
    → take_in_answer w packed ≡ Ok (record_of w packed)
take_in_answer_is w packed s long are_trits pads =
    asked_yes (served w && eqb (length packed) (packed_length w)) KeyLength _ (and_from (served w) (eqb (length packed) (packed_length w)) (test_from_served w s) (eq-eqb (length packed) (packed_length w) long))
    ∙ asked_yes (trits_only packed && all_zero (drop (8 * w) (trits packed))) NotTrits (Ok (record_of w packed)) (and_from (trits_only packed) (all_zero (drop (8 * w) (trits packed))) are_trits pads)

-- opening, from what was found behind the trits and from reading what was left in the scratch
module _ {X : Type 0} (f : List Bool → ℕ) (w : ℕ) (decode : List ℕ → Option X) (scratch : ℕ) (k : SealedKey)
    (s : Served w) (room : 32 ≤ scratch) (width_is : k.width ≡ w) where
  abbrev found : Option (List Bool)
  found = unmasked f [] (take (8 * w) (trits k.bytes))

  pub open_answer_is : open_answer f w decode scratch k ≡ bits_asked found (λ bs. value_asked (decode (bytes_of w bs)))
  open_answer_is =
      cipher_asked_yes w scratch _ s room ∙ asked_yes (eqb k.width w) OtherWidth _ (eq-eqb k.width w width_is)

  -- `part` is how many bytes of the scratch the opened key was lent
  pub opens_some : (part : ℕ) (key rest : List ℕ) → part ≡ w → length key ≡ part
      → Ok tt ≡ found_answer (unmasked f [] (take (8 * part) (trits k.bytes))) → FoundLeft (unmasked f [] (take (8 * part) (trits k.bytes))) key
      → read_answer w decode (key ++ rest) ≡ open_answer f w decode scratch k
  opens_some part key rest part_is kept told_there left_there =
      let long = kept ∙ part_is in
      let told : Ok tt ≡ found_answer found = rw part_is at told_there in
      let left : FoundLeft found key = rw part_is at left_there in
      let front = take_at key rest w long in
      let there : w ≤ length (key ++ rest) = rw (length-append key rest) (omega arith) in
      asked_within w (length (key ++ rest)) (value_asked (decode (take w (key ++ rest)))) s there
      ∙ ap (λ bytes. value_asked (decode bytes)) front ∙ sym (open_answer_is ∙ by_found found long told left)
    where
      by_found : (o : Option (List Bool)) → length key ≡ w → Ok tt ≡ found_answer o → FoundLeft o key → bits_asked o (λ bs. value_asked (decode (bytes_of w bs))) ≡ value_asked (decode key)
      by_found None long e l = cc
      by_found (Some bs) long e l = ap (λ bytes. value_asked (decode bytes)) (ap (λ n. bytes_of n bs) (sym long) ∙ sym l)
