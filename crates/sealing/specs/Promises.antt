-- What sealing, opening and comparing promise in terms of the values.
use Rattle.std.specs.Prelude.{◌≡◌, ℕ, ◌≤◌, Bool, List, length, take, Ok, Result}
use Rattle.std.specs.declared.cmp.Ordering.{Ordering}
use Rattle.digits.specs.Orders.{row_order}
use Rattle.digits.specs.Positional.{bits}
use Rattle.keys.specs.Kinds.{Bytes, Served}
use Rattle.sealing.specs.declared.records.Comparison.{Comparison}
use Rattle.sealing.specs.declared.records.SealedKey.{SealedKey}
use Rattle.sealing.specs.Compared.{decided, compared, first_different_bit}
use Rattle.sealing.specs.Sealed.{sealed, packed_length, take_in_answer, TakenIn}
use Rattle.keys.specs.declared.refusals.Refusal.{Refusal}

-- a value v of a kind, and what sealing it under f answered
pub record SealsInOrder {V : Type 0} (order : V → V → Ordering) (lawful : V → Type 0) (encode : V → List ℕ) (f : List Bool → ℕ) (v : V) (answer : Result SealedKey Refusal) : Type 0 where
  -- it compares with every value's sealed key as the values do, at the first different bit
  pub compares : (k : SealedKey) (u : V) → answer ≡ Ok k → lawful u → compared k (sealed f (encode u)) ≡ decided (order v u) (first_different_bit (bits (encode v)) (bits (encode u)))
  -- its packed bytes can be taken in, and give the same key
  pub taken_in : (k : SealedKey) → answer ≡ Ok k → take_in_answer k.width (take (packed_length k.width) k.bytes) ≡ Ok k

-- a sealed key, and what opening it under f answered: `Ok v` exactly if the value v seals to this key
pub record OpensExactly {V : Type 0} (width : ℕ) (lawful : V → Type 0) (encode : V → List ℕ) (f : List Bool → ℕ) (scratch : ℕ) (k : SealedKey) (answer : Result V Refusal) : Type 0 where
  pub opens : (v : V) → Served width → 32 ≤ scratch → lawful v → sealed f (encode v) ≡ k → answer ≡ Ok v
  pub only : (v : V) → TakenIn k → answer ≡ Ok v → lawful v × (sealed f (encode v) ≡ k)

-- keys of equal width sealed under one mask function compare as their key bytes do, at the first different bit
abbrev pub ComparesAsSealed : SealedKey → SealedKey → Comparison → Type 0
ComparesAsSealed a b answer =
    (f : List Bool → ℕ) (u v : List ℕ) → Bytes u → Bytes v → Served (length u) → length u ≡ length v
    → a ≡ sealed f u → b ≡ sealed f v → answer ≡ decided (row_order u v) (first_different_bit (bits u) (bits v))
