use Rattle.std.proofs.Common.{refl}
use Rattle.avl.specs.Avl.{balance}
use Rattle.siphash.specs.SipHash.{siphash, sip_round, initialize, compress, last_word, finalize}
use Rattle.sealing.specs.Masking.{packed_trits}
use Rattle.sealing.specs.Sealed.{sealed}
use Rattle.cases.proofs.worked_cases_hold.Goals as goal

pub returns : goal.returns
unfolding siphash sip_round initialize compress last_word finalize sealed packed_trits balance
returns c =
    record {
      level_below_zero = refl;
      sealed_under_masks_of_2 = refl;
      sealed_under_masks_of_0 = refl;
      neighbour_under_masks_of_0 = refl;
      greater_at_the_last_bit = refl;
      less_although_the_trit_is_larger = refl;
      refused_over_242 = refl;
      refused_with_a_pad_trit = refl;
      published_hash = refl;
      turned_once = refl;
      neighbour_moved = refl;
      slot_freed = refl;
    }
