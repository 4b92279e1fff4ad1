-- Names: up to 16 bytes, none of them zero, written filled up to 16 bytes with zeros.
use Rattle.std.specs.Prelude.{◌≡◌, ℕ, ◌-◌, Bool, true, false, not, ◌&&◌, List, ◌++◌, length, drop, replicate, Some, None, Ok, Option, Result, ◌==◌, nat_le, refl}
use Rattle.std.specs.List.{list_any, before_first, position_or_len}
use Rattle.digits.specs.Positional.{all_zero}
use Rattle.keys.specs.Refusals.{asked}
use Rattle.keys.specs.declared.refusals.Refusal.{Refusal}
use Rattle.keys.specs.declared.refusals.Refusal.TheVariants.{NoValue}

abbrev pub is_zero : ℕ → Bool
is_zero b = b == 0

-- the bytes before the first zero
abbrev pub unfilled : List ℕ → List ℕ
unfilled bytes = before_first is_zero bytes

-- and those from there on
abbrev pub fill : List ℕ → List ℕ
fill bytes = drop (position_or_len is_zero bytes) bytes

-- 16 bytes, with zeros only at the end
abbrev pub is_name : List ℕ → Bool
is_name bytes = length bytes == 16 && all_zero (fill bytes)

-- do these bytes make a name? Then zeros fill them up
abbrev pub named : List ℕ → Result (List ℕ) Refusal
named text = asked (nat_le (length text) 16 && not (list_any is_zero text)) NoValue (Ok (text ++ replicate (16 - length text) 0))

-- what a test that came out true makes, if it did
abbrev pub where_true : {X : Type 0} → (test : Bool) → (test ≡ true → X) → Option X
where_true true make = Some (make refl)
where_true false make = None
