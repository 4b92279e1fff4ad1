-- Questions that are asked in turn, and what their answers tell.
use Rattle.std.specs.Prelude.{◌≡◌, ℕ, ◌≤◌, Bool, true, false, ◌&&◌, List, ◌++◌, length, drop, Ok, Err, Result, nat_le, refl}
use Rattle.std.proofs.Common.{◌∙◌, arith}
use Rattle.std.proofs.lemmas.Bool.{and_parts, and_from, leb-true, le-leb, cond-true}
use Rattle.std.proofs.lemmas.Bool.Decides.{nat_tests}
use Rattle.keys.specs.Kinds.{served, Served, width_asked, write_answer, written}
use Rattle.keys.specs.Refusals.{asked}
use Rattle.keys.specs.declared.refusals.Refusal.{Refusal}
use Rattle.keys.specs.declared.refusals.Refusal.TheVariants.{KindWidth, ShortBuffer}

pub served_from_test : (w : ℕ) → served w ≡ true → Served w
served_from_test w e =
    let p = and_parts (nat_le 1 w) (nat_le w 32) e in
    (leb-true 1 w p.0, leb-true w 32 p.1)

pub test_from_served : (w : ℕ) → Served w → served w ≡ true
test_from_served w h = and_from (nat_le 1 w) (nat_le w 32) (le-leb 1 w h.0) (le-leb w 32 h.1)

-- a yes goes on
pub asked_yes : {X : Type 0} (held : Bool) (refusal : Refusal) (next : Result X Refusal) → held ≡ true → asked held refusal next ≡ next
asked_yes held refusal next e = cond-true held next (Err refusal) e

-- what was answered at the end was asked with a yes
pub asked_ok : {X : Type 0} (held : Bool) (refusal : Refusal) (next : Result X Refusal) (x : X) → asked held refusal next ≡ Ok x → (held ≡ true) × (next ≡ Ok x)
asked_ok true refusal next x e = (refl, e)
asked_ok false refusal next x e = absurd cc

-- both questions of a write and a read are answered with yes
pub asked_within : {X : Type 0} (w there : ℕ) (next : Result X Refusal) → Served w → w ≤ there → width_asked w there next ≡ next
asked_within w there next h k =
    asked_yes (served w) KindWidth (asked (nat_le w there) ShortBuffer next) (test_from_served w h) ∙ asked_yes (nat_le w there) ShortBuffer next (le-leb w there k)

pub within_from_asked : (w there : ℕ) → write_answer w there ≡ Ok tt → Served w × (w ≤ there)
within_from_asked w there e = (grind (arith, nat_tests), grind (arith, nat_tests))

pub written_within : (w : ℕ) (key before : List ℕ) → Served w → w ≤ length before → written w key before ≡ key ++ drop w before
written_within w key before h k =
    cond-true (served w && nat_le w (length before)) (key ++ drop w before) before (and_from (served w) (nat_le w (length before)) (test_from_served w h) (le-leb w (length before) k))

-- equal answers have equal values
pub value_from_ok : {X : Type 0} (x y : X) → ◌≡◌ {A = Result X Refusal} (Ok x) (Ok y) → x ≡ y
value_from_ok x y e = cc
