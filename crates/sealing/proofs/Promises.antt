-- The promises of sealing and opening follow from their answers and a kind's laws.
use Rattle.std.proofs.Common.{◌≡◌, ℕ, ◌<◌, Bool, List, length, Some, Ok, Option, Result, Ordering, sym, ap, ◌∙◌, arith}
use Rattle.digits.specs.Orders.{row_order}
use Rattle.digits.specs.Positional.{bits}
use Rattle.keys.specs.Kinds.{Bytes, Served, value_asked}
use Rattle.keys.specs.Questions.{value_from_ok}
use Rattle.sealing.specs.declared.records.Comparison.{Comparison}
use Rattle.sealing.specs.declared.records.SealedKey.{SealedKey}
use Rattle.sealing.specs.Compared.{decided, compared, first_different_bit}
use Rattle.sealing.specs.Opened.{open_answer}
use Rattle.sealing.specs.Promises.{SealsInOrder, OpensExactly, ComparesAsSealed}
use Rattle.sealing.specs.Sealed.{sealed, seal_answer}
use Rattle.sealing.proofs.Answering.{cipher_asked_ok}
use Rattle.sealing.proofs.Opening.{opens_sealed, opened_seals, opened_served}
use Rattle.sealing.specs.SealedOrder.{compares_as_bytes}
use Rattle.sealing.proofs.TakenIn.{sealed_taken_in}
use Rattle.keys.specs.declared.refusals.Refusal.{Refusal}

pub compares_as_sealed : (a b : SealedKey) (answer : Comparison) → answer ≡ compared a b → ComparesAsSealed a b answer
compares_as_sealed a b answer told f u v u_bytes v_bytes u_served long a_is b_is =
    let v_served : Served (length v) = (let lower = u_served.0 in omega arith, let upper = u_served.1 in omega arith) in
    told ∙ ap (λ k. compared k b) a_is ∙ ap (compared (sealed f u)) b_is ∙ compares_as_bytes f u v u_bytes v_bytes u_served v_served long

module _ {V : Type 0} (width : ℕ) (order : V → V → Ordering) (lawful : V → Type 0) (encode : V → List ℕ) (f : List Bool → ℕ)
    (wide : (v : V) → lawful v → Served width → length (encode v) ≡ width)
    (bytes : (v : V) → lawful v → Served width → Bytes (encode v)) where
  served_key : (v : V) → lawful v → Served width → Served (length (encode v))
  served_key v l s = let long = wide v l s in (let lower = s.0 in omega arith, let upper = s.1 in omega arith)

  module _ (ordered : (v w : V) → lawful v → lawful w → Served width → order v w ≡ row_order (encode v) (encode w))
      (scratch : ℕ) (v : V) (v_lawful : lawful v) (answer : Result SealedKey Refusal) (told : answer ≡ seal_answer f width scratch (encode v)) where
    sealed_so : (k : SealedKey) → answer ≡ Ok k → Served width × (k ≡ sealed f (encode v))
    sealed_so k e =
        let asked = cipher_asked_ok width scratch _ k (sym told ∙ e) in
        (asked.0, sym (value_from_ok _ _ asked.2))

    pub seals_in_order : SealsInOrder order lawful encode f v answer
    seals_in_order =
        record {
          compares = λ k u e u_Lawful.
              let so = sealed_so k e in
              let s = so.0 in
              ap (λ j. compared j (sealed f (encode u))) so.1
              ∙ compares_as_bytes f (encode v) (encode u) (bytes v v_lawful s) (bytes u u_Lawful s) (served_key v v_lawful s) (served_key u u_Lawful s) (wide v v_lawful s ∙ sym (wide u u_Lawful s))
              ∙ ap (λ o. decided o (first_different_bit (bits (encode v)) (bits (encode u)))) (sym (ordered v u v_lawful u_Lawful s));
          taken_in = λ k e.
              let so = sealed_so k e in
              rw so.1 (sealed_taken_in f (encode v) (served_key v v_lawful so.0));
        }

  module _ (small : (list : List Bool) → f list < 3) (decode : List ℕ → Option V)
      (reads : (v : V) → lawful v → Served width → decode (encode v) ≡ Some v)
      (writes : (key : List ℕ) (v : V) → Bytes key → Served width → decode key ≡ Some v → lawful v × (encode v ≡ key))
      (scratch : ℕ) (k : SealedKey) (answer : Result V Refusal) (told : answer ≡ open_answer f width decode scratch k) where
    pub opens_exactly : OpensExactly width lawful encode f scratch k answer
    opens_exactly =
        record {
          opens = λ v s room v_lawful e.
              told ∙ ap (open_answer f width decode scratch) (sym e) ∙ ap (λ n. open_answer f n decode scratch (sealed f (encode v))) (sym (wide v v_lawful s))
              ∙ opens_sealed f small decode scratch (encode v) (bytes v v_lawful s) (served_key v v_lawful s) room ∙ ap value_asked (reads v v_lawful s);
          only = λ v taken e.
              let told_ok = sym told ∙ e in
              let s = opened_served f small decode scratch width k v told_ok in
              let found = opened_seals f small decode scratch width k v told_ok taken in
              let wrote = writes found.0 v found.1 s found.2 in
              (wrote.0, ap (sealed f) wrote.1 ∙ found.3);
        }
