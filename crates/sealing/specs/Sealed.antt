-- Sealed keys as records, and what sealing and taking in answer.
use Rattle.std.specs.Prelude.{◌≡◌, ℕ, ◌+◌, ◌-◌, ◌*◌, ◌/◌, ◌<◌, Bool, ◌&&◌, List, [], ◌++◌, length, drop, replicate, Ok, Result, ◌==◌, nat_le}
use Rattle.std.specs.List.{list_all}
use Rattle.digits.specs.Positional.{bits, trits, all_zero}
use Rattle.keys.specs.Refusals.{asked}
use Rattle.keys.specs.Kinds.{Bytes, Served, served}
use Rattle.sealing.specs.declared.records.SealedKey.{SealedKey}
use Rattle.sealing.specs.Masking.{masked, packed_trits}
use Rattle.keys.specs.declared.refusals.Refusal.{Refusal}
use Rattle.keys.specs.declared.refusals.Refusal.TheVariants.{KindWidth, ShortBuffer, KeyLength, NotTrits}

-- how many bytes the trits of w key bytes take, five to a byte: the least whole number not under 8w / 5
abbrev pub packed_length : ℕ → ℕ
packed_length w = (8 * w + 4) / 5

-- the sealed key of key bytes
unfoldable pub sealed : (List Bool → ℕ) → List ℕ → SealedKey
sealed f key = record { width = length key; bytes = packed_trits (masked f [] (bits key)) }

-- is the kind 1 to 32 bytes wide? and has the scratch at least 32 bytes?
abbrev pub cipher_asked : {X : Type 0} → ℕ → ℕ → Result X Refusal → Result X Refusal
cipher_asked w scratch next = asked (served w) KindWidth (asked (nat_le 32 scratch) ShortBuffer next)

-- what sealing answers: the kind's width, the scratch's length, the value's key bytes
abbrev pub seal_answer : (List Bool → ℕ) → ℕ → ℕ → List ℕ → Result SealedKey Refusal
seal_answer f w scratch key = cipher_asked w scratch (Ok (sealed f key))

-- the record of packed bytes, filled up with zeros
abbrev pub record_of : ℕ → List ℕ → SealedKey
record_of w packed = record { width = w; bytes = packed ++ replicate (52 - length packed) 0 }

-- five trits make at most 242
abbrev pub trits_only : List ℕ → Bool
trits_only = list_all (λ b. nat_le b 242)

-- what taking in answers: is the width 1 to 32, and the length its packed length? and are bytes at most 242 and pad trits 0?
abbrev pub take_in_answer : ℕ → List ℕ → Result SealedKey Refusal
take_in_answer w packed =
    asked (served w && length packed == packed_length w) KeyLength
    (asked (trits_only packed && all_zero (drop (8 * w) (trits packed))) NotTrits (Ok (record_of w packed)))

-- records that taking in gives
abbrev pub TakenIn : SealedKey → Type 0
TakenIn k = (packed : List ℕ) × (take_in_answer k.width packed ≡ Ok k)

-- records of bytes: what a program can hold
pub record FitsRecord (k : SealedKey) : Type 0 where
  pub width_fits : k.width < 256
  pub length_is : length k.bytes ≡ 52
  pub bytes_fit : Bytes k.bytes

-- the sealed keys of one mask function, of any width that is served
pub record SealedUnder (f : List Bool → ℕ) (k : SealedKey) : Type 0 where
  pub key : List ℕ
  pub key_bytes : Bytes key
  pub key_width : Served (length key)
  pub is : k ≡ sealed f key
