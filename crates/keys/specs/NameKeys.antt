-- Names: their fill, and the one proof that bytes are a name.
use Rattle.std.specs.Prelude.{◌≡◌, ℕ, zero, suc, ◌+◌, ◌-◌, ◌≤◌, Bool, true, false, cond, not, ◌&&◌, ◌||◌, List, [], ◌∷◌, ◌++◌, length, take, drop, replicate, Some, Ok, Err, ◌==◌, nat_le, refl}
use Rattle.std.specs.List.{list_any, position_or_len}
use Rattle.std.proofs.Common.{sym, ap, ◌∙◌, arith}
use Rattle.std.proofs.Math.Bool.{Bool-set}
use mathlib.Core.HLevel.{is_prop→PathP}
use Rattle.std.proofs.lemmas.List.{length-append, length-replicate, drop-replicate}
use Rattle.std.proofs.lemmas.Bool.{and_parts, and_from, cond-true, eq-eqb, eqb-true, le-leb}
use Rattle.digits.specs.Positional.{all_zero}
use Rattle.keys.specs.Kinds.{value_asked, read_answer}
use Rattle.keys.specs.Names.{is_zero, fill, is_name, named, where_true}
use Rattle.keys.specs.declared.refusals.Refusal.TheVariants.{ShortBuffer, NoValue}

-- what is made of the bytes of a name does not depend on the proof that they are one
pub same_name : {X : Type 0} (make : (bytes : List ℕ) → is_name bytes ≡ true → X) (a b : List ℕ) (p : is_name a ≡ true) (q : is_name b ≡ true) → a ≡ b → make a p ≡ make b q
same_name make a b p q e = λ i. make (e i) (is_prop→PathP (λ j. is_name (e j) ≡ true) (λ j. Bool-set (is_name (e j)) true) p q i)

pub where_true_some : {X : Type 0} (test : Bool) (make : test ≡ true → X) (e : test ≡ true) → where_true test make ≡ Some (make e)
where_true_some true make e = ap (λ p. Some (make p)) (Bool-set true true refl e)
where_true_some false make e = cc

pub where_true_parts : {X : Type 0} (test : Bool) (make : test ≡ true → X) (x : X) → where_true test make ≡ Some x → (e : test ≡ true) × (make e ≡ x)
where_true_parts true make x e = (refl, cc)
where_true_parts false make x e = cc

zeros_are : (n : ℕ) → all_zero (replicate n 0) ≡ true
zeros_are zero = refl
zeros_are (suc n) = zeros_are n

-- zeros behind bytes that are not zero are the fill
fill_is : (text : List ℕ) (n : ℕ) → list_any is_zero text ≡ false → fill (text ++ replicate n 0) ≡ replicate n 0
fill_is [] zero h = refl
fill_is [] (suc n) h = refl
fill_is (x ∷ xs) n h = by_test (is_zero x) h (fill_is xs n)
  where
    rest : List ℕ
    rest = xs ++ replicate n 0

    by_test : (test : Bool) → (test || list_any is_zero xs) ≡ false → (list_any is_zero xs ≡ false → fill rest ≡ replicate n 0) → drop (cond (not test) (1 + position_or_len is_zero rest) 0) (x ∷ rest) ≡ replicate n 0
    by_test true e behind = cc
    by_test false e behind = let next : 1 + position_or_len is_zero rest ≡ suc (position_or_len is_zero rest) = omega arith in ap (λ k. drop k (x ∷ rest)) next ∙ behind e

-- `copied` is the text as it was copied in front of zeros
module _ (text copied : List ℕ) (same : copied ≡ text) (fits : length text ≤ 16) (whole : list_any is_zero text ≡ false) where
  copied_is : copied ++ drop (length text) (replicate 16 0) ≡ text ++ replicate (16 - length text) 0
  copied_is = ap (λ t. t ++ drop (length text) (replicate 16 0)) same ∙ ap (λ t. text ++ t) (drop-replicate (length text) 16 0)

  pub new_is_name : is_name (copied ++ drop (length text) (replicate 16 0)) ≡ true
  new_is_name =
      let filling = replicate (16 - length text) 0 in
      let long : length (text ++ filling) ≡ 16 = simp (length-append, length-replicate) (omega arith) in
      ap is_name copied_is ∙ and_from (length (text ++ filling) == 16) (all_zero (fill (text ++ filling))) (eq-eqb (length (text ++ filling)) 16 long) (ap all_zero (fill_is text (16 - length text) whole) ∙ zeros_are (16 - length text))

  pub new_answers : Ok (copied ++ drop (length text) (replicate 16 0)) ≡ named text
  new_answers = ap Ok copied_is ∙ sym (cond-true (nat_le (length text) 16 && not (list_any is_zero text)) (Ok (text ++ replicate (16 - length text) 0)) (Err NoValue) (and_from (nat_le (length text) 16) (not (list_any is_zero text)) (le-leb (length text) 16 fits) (ap not whole)))

pub name_length : (bytes : List ℕ) → is_name bytes ≡ true → length bytes ≡ 16
name_length bytes e = eqb-true (length bytes) 16 (and_parts (length bytes == 16) (all_zero (fill bytes)) e).0

-- a read of 16 bytes that are a name
pub name_read : {X : Type 0} (make : (bytes : List ℕ) → is_name bytes ≡ true → X) (own bytes : List ℕ) (p : is_name own ≡ true) → 16 ≤ length bytes → own ≡ take 16 bytes → Ok (make own p) ≡ read_answer 16 (λ key. where_true (is_name key) (make key)) bytes
name_read make own bytes p l e =
    let q : is_name (take 16 bytes) ≡ true = sym (ap is_name e) ∙ p in
    ap Ok (same_name make own (take 16 bytes) p q e)
    ∙ ap value_asked (sym (where_true_some (is_name (take 16 bytes)) (make (take 16 bytes)) q))
    ∙ sym (cond-true (nat_le 16 (length bytes)) (value_asked (where_true (is_name (take 16 bytes)) (make (take 16 bytes)))) (Err ShortBuffer) (le-leb 16 (length bytes) l))
