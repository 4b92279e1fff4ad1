-- Cases worked by hand, as one table: each row says what a definition gives.
use Rattle.std.specs.Prelude.{◌≡◌, ℕ, zero, suc, Bool, List, [], ◌∷◌, take, negsuc, Err}
use Rattle.std.specs.declared.cmp.Ordering.TheVariants.{Less, Greater}
use Rattle.avl.specs.Avl.{tip, fork}
use Rattle.avl.specs.Model.{TreeModel, tree_step, new_tree, next_slot}
use Rattle.books.specs.Calls.{Call, Add, Take}
use Rattle.digits.specs.Orders.{number_order}
use Rattle.keys.specs.Numbers.{number_key, raised}
use Rattle.sealing.specs.declared.records.SealedKey.{SealedKey}
use Rattle.sealing.specs.Compared.{decided, compared}
use Rattle.sealing.specs.Sealed.{sealed, packed_length, record_of, take_in_answer}
use Rattle.siphash.specs.SipHash.{siphash}
use Rattle.keys.specs.declared.refusals.Refusal.TheVariants.{NotTrits}

-- the packed bytes of a sealed key
abbrev packed_bytes : SealedKey → List ℕ
packed_bytes k = take (packed_length k.width) k.bytes

-- a mask function that gives one mask everywhere
abbrev masks_of : ℕ → List Bool → ℕ
masks_of mask list = mask

-- n numbers from the first one on
abbrev from : ℕ → ℕ → List ℕ
from first zero = []
from first (suc n) = first ∷ from (suc first) n

-- what calls leave, one after the other, of a tree whose keys are numbers
abbrev after : List (Call ℕ) → TreeModel ℕ → TreeModel ℕ
after [] m = m
after (c ∷ calls) m = after calls (tree_step number_order m c).1

-- seven slots, and the keys 1, 2 and 3 added with the tickets 11, 12 and 13
abbrev three_added : TreeModel ℕ
three_added = after (Add 1 11 ∷ Add 2 12 ∷ Add 3 13 ∷ []) (new_tree 7)

-- and then 2 taken
abbrev then_taken : TreeModel ℕ
then_taken = after (Take 2 ∷ []) three_added

pub record WorkedCases : Type 0 where
  -- the level of −1 mm is written 7F FF FF FF
  pub level_below_zero : number_key (raised (negsuc 0)) ≡ 0x7F ∷ 0xFF ∷ 0xFF ∷ 0xFF ∷ []
  -- the byte A5 under masks of 2 is sealed as 62, 54
  pub sealed_under_masks_of_2 : packed_bytes (sealed (masks_of 2) (0xA5 ∷ [])) ≡ 62 ∷ 54 ∷ []
  -- under masks of 0 it is sealed as 90, 90, and A4 as 90, 81: it is greater, and they differ at bit 8
  pub sealed_under_masks_of_0 : packed_bytes (sealed (masks_of 0) (0xA5 ∷ [])) ≡ 90 ∷ 90 ∷ []
  pub neighbour_under_masks_of_0 : packed_bytes (sealed (masks_of 0) (0xA4 ∷ [])) ≡ 90 ∷ 81 ∷ []
  pub greater_at_the_last_bit : compared (sealed (masks_of 0) (0xA5 ∷ [])) (sealed (masks_of 0) (0xA4 ∷ [])) ≡ decided Greater 8
  -- trits are compared modulo 3: with 162, 0 the first trit is 2, which is less than 0
  pub less_although_the_trit_is_larger : compared (record_of 1 (162 ∷ 0 ∷ [])) (record_of 1 (0 ∷ 0 ∷ [])) ≡ decided Less 1
  -- 243 is no byte of five trits, and in 90, 91 a pad trit is not 0
  pub refused_over_242 : take_in_answer 1 (243 ∷ 0 ∷ []) ≡ Err NotTrits
  pub refused_with_a_pad_trit : take_in_answer 1 (90 ∷ 91 ∷ []) ≡ Err NotTrits
  -- SipHash-2-4 of the bytes 00 to 0e under the key 00 to 0f
  pub published_hash : siphash (from 0 16) (from 0 15) ≡ 0xa129ca6149be45e5
  -- keys 1, 2 and 3 added: the root is in slot 1
  pub turned_once : three_added.tree ≡ fork 1 2 12 (fork 0 1 11 tip tip) (fork 2 3 13 tip tip)
  -- then 2 taken: 3 is in slot 1, and slot 2 is next
  pub neighbour_moved : then_taken.tree ≡ fork 1 3 13 (fork 0 1 11 tip tip) tip
  pub slot_freed : next_slot then_taken.free then_taken.fresh ≡ 2
