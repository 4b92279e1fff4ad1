-- What opening answers.
use Rattle.std.specs.Prelude.{◌≡◌, ℕ, ◌+◌, ◌*◌, ◌%◌, Bool, true, false, cond, List, [], map, length, take, Some, None, Ok, Err, Option, Result, ◌==◌}
use mir.Val.{bool_byte}
use Rattle.digits.specs.Positional.{packed, trits}
use Rattle.keys.specs.Refusals.{asked}
use Rattle.keys.specs.Kinds.{value_asked}
use Rattle.sealing.specs.declared.records.SealedKey.{SealedKey}
use Rattle.sealing.specs.Masking.{unmasked}
use Rattle.sealing.specs.Sealed.{cipher_asked}
use Rattle.keys.specs.declared.refusals.Refusal.{Refusal}
use Rattle.keys.specs.declared.refusals.Refusal.TheVariants.{OtherWidth, OtherSecret}

-- the key bytes of bits
abbrev pub bytes_of : ℕ → List Bool → List ℕ
bytes_of w found = packed 2 8 w (map bool_byte found)

-- is each trit its mask or its mask plus 1 modulo 3?
abbrev pub bits_asked : {X : Type 0} → Option (List Bool) → (List Bool → Result X Refusal) → Result X Refusal
bits_asked None next = Err OtherSecret
bits_asked (Some found) next = next found

-- what opening answers: after the questions of sealing, is the width the kind's? is each trit its mask or one more? and
-- are the bytes a value?
abbrev pub open_answer : {X : Type 0} → (List Bool → ℕ) → ℕ → (List ℕ → Option X) → ℕ → SealedKey → Result X Refusal
open_answer f w decode scratch k =
    cipher_asked w scratch
    (asked (k.width == w) OtherWidth
    (bits_asked (unmasked f [] (take (8 * w) (trits k.bytes))) (λ found. value_asked (decode (bytes_of w found)))))

-- the same question, of the bits behind a row of trits
abbrev pub found_answer : Option (List Bool) → Result (Unit {0}) Refusal
found_answer o = bits_asked o (λ _. Ok tt)

-- the key bytes that are left where bits were found
abbrev pub FoundLeft : Option (List Bool) → List ℕ → Type 0
FoundLeft None key = Unit {0}
FoundLeft (Some found) key = key ≡ bytes_of (length key) found

-- the same question, of one trit
abbrev pub trit_answer : ℕ → ℕ → Result Bool Refusal
trit_answer trit mask = cond (trit == mask) (Ok false) (cond (trit == (mask + 1) % 3) (Ok true) (Err OtherSecret))
