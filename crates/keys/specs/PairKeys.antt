-- The width of a pair, and what its reads and writes come to.
use Rattle.std.specs.Prelude.{◌≡◌, ℕ, ◌+◌, ◌-◌, ◌≤◌, ◌&&◌, List, length, take, drop, Some, None, Ok, Err, Option, nat_le, refl}
use Rattle.std.proofs.Common.{sym, ap, ◌∙◌, ⊎_elim, arith}
use Rattle.std.proofs.lemmas.Bool.{and_parts, cases_Bool, cond-true, cond-false}
use Rattle.std.proofs.lemmas.List.{length-drop, take_rest, take-take, drop-take}
use Rattle.keys.specs.declared.refusals.Refusal.{Refusal}
use Rattle.keys.specs.Kinds.{served, Served, write_answer, value_asked, read_answer}
use Rattle.keys.specs.Pairs.{pair_width, both, pair_decoded}
use Rattle.keys.specs.Questions.{served_from_test, asked_within, within_from_asked}

-- the parts of a pair that is served are served, and its width is their sum
pub pair_parts : (v w : ℕ) → Served (pair_width v w) → Served v × Served w × (pair_width v w ≡ v + w)
pair_parts v w h =
    let test = served v && (served w && nat_le (v + w) 32) in
    ⊎_elim
    (λ e.
    let p = and_parts (served v) (served w && nat_le (v + w) 32) e in
    let q = and_parts (served w) (nat_le (v + w) 32) p.1 in
    (served_from_test v p.0, served_from_test w q.0, cond-true test (v + w) 33 e))
    (λ e. let n : pair_width v w ≡ 33 = cond-false test (v + w) 33 e in absurd (omega (arith, n)))
    (cases_Bool test)

pub both_parts : {A B P : Type 0} (pair : A → B → P) (a : Option A) (b : Option B) (p : P) → both pair a b ≡ Some p → (x : A) × (y : B) × (a ≡ Some x) × (b ≡ Some y) × (pair x y ≡ p)
both_parts pair None b p e = absurd cc
both_parts pair (Some x) None p e = absurd cc
both_parts pair (Some x) (Some y) p e = (x, y, refl, refl, cc)

second_refused : {A B P : Type 0} (pair : A → B → P) (a : Option A) (b : Option B) (x : A) (n : Refusal) → Ok x ≡ value_asked a → Err n ≡ value_asked b → Err n ≡ value_asked (both pair a b)
second_refused pair None b x n e f = cc
second_refused pair (Some y) None x n e f = cc
second_refused pair (Some y) (Some z) x n e f = cc

both_read : {A B P : Type 0} (pair : A → B → P) (a : Option A) (b : Option B) (x : A) (y : B) → Ok x ≡ value_asked a → Ok y ≡ value_asked b → Ok (pair x y) ≡ value_asked (both pair a b)
both_read pair None b x y e f = cc
both_read pair (Some z) None x y e f = cc
both_read pair (Some z) (Some t) x y e f = cc

-- `width` is that of a pair of parts v and w bytes wide, `split` that of its first part
module _ (v w width : ℕ) (bytes : List ℕ) (is : width ≡ pair_width v w) (asked : Ok tt ≡ write_answer width (length bytes)) where
  served_pair : Served (pair_width v w) × (pair_width v w ≤ length bytes)
  served_pair = within_from_asked (pair_width v w) (length bytes) (sym (asked ∙ ap (λ n. write_answer n (length bytes)) is))

  -- both parts lie within the bytes, one behind the other
  pub parts_within : Served v × Served w × (pair_width v w ≡ v + w) × (v + w ≤ length bytes)
  parts_within =
      let p = pair_parts v w served_pair.0 in
      (p.0, p.1, p.2, omega (arith, p.2, served_pair.1))

  module _ {A B P : Type 0} (pair : A → B → P) (first : List ℕ → Option A) (second : List ℕ → Option B) where
    pair_read : read_answer (pair_width v w) (pair_decoded pair v first second) bytes ≡ value_asked (both pair (first (take v bytes)) (second (take w (drop v bytes))))
    pair_read =
        let p = parts_within in
        let front : take v (take (pair_width v w) bytes) ≡ take v bytes = take-take v (pair_width v w) bytes (omega (arith, p.2)) in
        let back : drop v (take (pair_width v w) bytes) ≡ take w (drop v bytes) = ap (λ n. drop v (take n bytes)) p.2 ∙ drop-take v w bytes in
        asked_within (pair_width v w) (length bytes) (value_asked (pair_decoded pair v first second (take (pair_width v w) bytes))) served_pair.0 served_pair.1
        ∙ ap (λ key. value_asked (both pair (first key) (second (drop v (take (pair_width v w) bytes))))) front
        ∙ ap (λ key. value_asked (both pair (first (take v bytes)) (second key))) back

    first_read : read_answer v first bytes ≡ value_asked (first (take v bytes))
    first_read = asked_within v (length bytes) (value_asked (first (take v bytes))) parts_within.0 (omega (arith, parts_within.3))

    second_read : (split : ℕ) → split ≡ v → read_answer w second (take (length bytes - split) (drop split bytes)) ≡ value_asked (second (take w (drop v bytes)))
    second_read split at =
        let rest : take (length bytes - split) (drop split bytes) ≡ drop v bytes = take_rest bytes split ∙ ap (λ n. drop n bytes) at in
        ap (read_answer w second) rest
        ∙ asked_within w (length (drop v bytes)) (value_asked (second (take w (drop v bytes)))) parts_within.1 (omega (arith, parts_within.3, length-drop v bytes))

    module _ (split : ℕ) (at : split ≡ v) (x : A) (e : Ok x ≡ read_answer v first bytes) where
      pub read_second_refused : (n : Refusal) → Err n ≡ read_answer w second (take (length bytes - split) (drop split bytes)) → Err n ≡ read_answer (pair_width v w) (pair_decoded pair v first second) bytes
      read_second_refused n f = second_refused pair (first (take v bytes)) (second (take w (drop v bytes))) x n (e ∙ first_read) (f ∙ second_read split at) ∙ sym pair_read

      pub read_both : (y : B) → Ok y ≡ read_answer w second (take (length bytes - split) (drop split bytes)) → Ok (pair x y) ≡ read_answer (pair_width v w) (pair_decoded pair v first second) bytes
      read_both y f = both_read pair (first (take v bytes)) (second (take w (drop v bytes))) x y (e ∙ first_read) (f ∙ second_read split at) ∙ sym pair_read
