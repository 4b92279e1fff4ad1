-- The text of a list of bits: reading it gives the list back, and what one more bit does to it.
use Rattle.std.proofs.Common.{◌≡◌, ℕ, ◌+◌, ◌-◌, ◌*◌, ◌/◌, ◌%◌, ◌^◌, ◌<◌, ◌≤◌, Bool, true, false, eqb, List, [], ◌∷◌, ◌++◌, map, length, get_or, take, set, replicate, sym, refl, ap, ◌∙◌, subst, one-add, arith, lit<}
use mir.Val.{bool_byte}
use Rattle.std.proofs.lemmas.List.{length-map, length_push, map-append, map_push, take_at}
use Rattle.std.proofs.lemmas.Nat.{shl_whole}
use Rattle.std.proofs.lemmas.Bool.{lt-ltb, le-ltb}
use Rattle.digits.specs.Positional.{packed}
use Rattle.digits.proofs.Bits.{bit_small, bits_small, bits_of_digits}
use Rattle.digits.proofs.Packing.{filled_is, unpacked_packed, packed_push, push_fits}
use Rattle.masks.specs.Sources.{walk_text, walked_bits, IsWalkText}
use Rattle.masks.specs.Walks.{has_room}

-- the text of a list stands for the list
pub walked_bits_text : (list : List Bool) → length list ≤ 255 → walked_bits (walk_text list) ≡ list
unfolding walk_text walked_bits
walked_bits_text list h =
    let bytes = map bool_byte list in
    let rest : List ℕ = replicate (256 - length bytes) 0 in
    let l = length-map list bool_byte in
    let is_bit : ℕ → Bool = λ d. eqb d 1 in
    let all = unpacked_packed 2 8 32 bytes (lit< tt) (bits_small list) ∙ filled_is 256 bytes (omega arith) in
    let split = ap (map is_bit) all ∙ map-append is_bit bytes rest ∙ ap (λ bs. bs ++ map is_bit rest) (bits_of_digits list) in
    ap (take (length list)) split ∙ take_at list (map is_bit rest) (length list) refl

-- the byte that one more bit falls into, with the bit in it
abbrev pub byte_with : List ℕ → Bool → ℕ
byte_with text bit = get_or text (1 + get_or text 0 0 / 8) 0 + (bool_byte bit * 2 ^ (7 - get_or text 0 0 % 8)) % 256

-- a text with one more bit
abbrev pub pushed : List ℕ → Bool → List ℕ
pushed text bit = set (set text (1 + get_or text 0 0 / 8) (byte_with text bit)) 0 (get_or text 0 0 + 1)

set_behind : (m n q v : ℕ) (ns : List ℕ) → set (set (n ∷ ns) (1 + q) v) 0 m ≡ m ∷ set ns q v
set_behind m n q v ns = rw one-add

module _ (list : List Bool) (bit : Bool) (short : length list ≤ 255) where
  packed_with : packed 2 8 32 (map bool_byte (list ++ bit ∷ [])) ≡ set (packed 2 8 32 (map bool_byte list)) (length list / 8) (byte_with (walk_text list) bit)
  unfolding walk_text
  packed_with =
      let l = length-map list bool_byte in
      let whole = shl_whole (bool_byte bit) 1 (7 - length list % 8) 8 (bit_small bit) (omega arith) in
      let push = packed_push 2 8 32 (length list / 8) (length list % 8) (map bool_byte list) (bool_byte bit) (omega arith) (omega arith) (omega arith) in
      ap (packed 2 8 32) (map_push bool_byte list bit) ∙ rw (one-add, whole) push

  text_push : walk_text (list ++ bit ∷ []) ≡ pushed (walk_text list) bit
  unfolding walk_text
  text_push =
      ap (λ n. n ∷ packed 2 8 32 (map bool_byte (list ++ bit ∷ []))) (length_push list bit)
      ∙ ap (λ ns. (length list + 1) ∷ ns) packed_with
      ∙ sym (set_behind (length list + 1) (length list) (length list / 8) (byte_with (walk_text list) bit) (packed 2 8 32 (map bool_byte list)))

  byte_fits : byte_with (walk_text list) bit < 256
  unfolding walk_text
  byte_fits =
      let l = length-map list bool_byte in
      let whole = shl_whole (bool_byte bit) 1 (7 - length list % 8) 8 (bit_small bit) (omega arith) in
      rw (one-add, whole) (push_fits 2 8 32 (length list / 8) (length list % 8) (map bool_byte list) (bool_byte bit) (lit< tt) (omega arith) (omega arith) (omega arith) (bits_small list) (bit_small bit))

-- bytes that are the text of the list that they stand for
module _ (text : List ℕ) (is : IsWalkText text) where
  abbrev walked : List Bool
  walked = walked_bits text

  length_byte : get_or text 0 0 ≡ length walked
  unfolding walk_text
  length_byte = ap (λ t. get_or t 0 0) is.exact

  pub no_room_left : get_or text 0 0 ≡ 255 → has_room walked ≡ false
  no_room_left full = let l = length_byte in le-ltb (length walked) 255 (omega arith)

  module _ (not_full : get_or text 0 0 ≡ 255 → ⊥) where
    room : length walked < 255
    room = let l = length_byte in let short = is.short in omega arith

    pub room_left : has_room walked ≡ true
    room_left = lt-ltb (length walked) 255 room

    module _ (bit : Bool) where
      pushed_is : pushed text bit ≡ walk_text (walked ++ bit ∷ [])
      pushed_is = ap (λ t. pushed t bit) is.exact ∙ sym (text_push walked bit is.short)

      pub walked_bits_pushed : walked_bits (pushed text bit) ≡ walked ++ bit ∷ []
      walked_bits_pushed =
          let l = length_push walked bit in
          let r = room in
          ap walked_bits pushed_is ∙ walked_bits_text (walked ++ bit ∷ []) (omega arith)

      pub pushed_text : IsWalkText (pushed text bit)
      pushed_text =
          let r = room in
          record {
            exact = pushed_is ∙ ap walk_text (sym walked_bits_pushed);
            short = rw (walked_bits_pushed, length_push walked bit) (omega arith);
          }

      pub pushed_fits : byte_with text bit < 256
      pushed_fits = let Fit : List ℕ → Type 0 = λ t. byte_with t bit < 256 in subst Fit (sym is.exact) (byte_fits walked bit is.short)
