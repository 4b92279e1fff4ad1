-- The list of bits that a mask source has walked.
use Rattle.std.specs.Prelude.{Bool, cond, List, [], ◌∷◌, ◌++◌, length, Ok, Result, nat_lt}
use Rattle.keys.specs.Refusals.{asked}
use Rattle.keys.specs.declared.refusals.Refusal.{Refusal}
use Rattle.keys.specs.declared.refusals.Refusal.TheVariants.{FullyWalked}

-- is there room for one more bit? A list has at most 255
abbrev pub has_room : List Bool → Bool
has_room walked = nat_lt (length walked) 255

-- were fewer than 255 bits walked?
abbrev pub step_answer : List Bool → Result (Unit {0}) Refusal
step_answer walked = asked (has_room walked) FullyWalked (Ok tt)

-- the list after a step
abbrev pub stepped : List Bool → Bool → List Bool
stepped walked bit = cond (has_room walked) (walked ++ bit ∷ []) walked
