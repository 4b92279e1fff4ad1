-- The refusals' numbers and texts, and how a row of questions answers.
use Rattle.std.specs.Prelude.{ℕ, Bool, cond, List, Err, Result, codes}
use Rattle.keys.specs.declared.refusals.Refusal.{Refusal}
use Rattle.keys.specs.declared.refusals.Refusal.TheVariants.{KindWidth, ShortBuffer, KeyLength, NotTrits, OtherWidth, OtherSecret, NoValue, FullyWalked, NoSlots, KeyHeld, BookFull, KeyNotHeld}

abbrev pub refusal_number : Refusal → ℕ
refusal_number KindWidth = 1
refusal_number ShortBuffer = 2
refusal_number KeyLength = 3
refusal_number NotTrits = 4
refusal_number OtherWidth = 5
refusal_number OtherSecret = 6
refusal_number NoValue = 7
refusal_number FullyWalked = 8
refusal_number NoSlots = 9
refusal_number KeyHeld = 10
refusal_number BookFull = 11
refusal_number KeyNotHeld = 12

-- what each means, in words
abbrev pub refusal_text : Refusal → List ℕ
refusal_text KindWidth = codes "the key kind is not 1 to 32 bytes wide"
refusal_text ShortBuffer = codes "the buffer is too short"
refusal_text KeyLength = codes "the width or the length is not that of a sealed key"
refusal_text NotTrits = codes "the packed bytes are not trits"
refusal_text OtherWidth = codes "the key has another width than the kind"
refusal_text OtherSecret = codes "the key was not sealed under this secret"
refusal_text NoValue = codes "the bytes are no value of the kind"
refusal_text FullyWalked = codes "the mask source has walked 255 bits"
refusal_text NoSlots = codes "the memory has no slots or too many"
refusal_text KeyHeld = codes "the key is held already"
refusal_text BookFull = codes "the book is full"
refusal_text KeyNotHeld = codes "the key is not held"

-- a question: a no gives its refusal, a yes goes on
abbrev pub asked : {X : Type 0} → Bool → Refusal → Result X Refusal → Result X Refusal
asked held refusal next = cond held next (Err refusal)
