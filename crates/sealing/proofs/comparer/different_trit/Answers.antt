use Rattle.std.proofs.Common.{refl, rules}
use Rattle.digits.specs.Positional.{trits}
use Rattle.sealing.proofs.Comparing.{byte_by_byte}
use Rattle.sealing.proofs.comparer.different_trit.Goals as goal

pub returns : goal.returns
returns c =
    byte_by_byte _ _ (trits c.args.a.now) (trits c.args.b.now) (λ x r q k. search rules) (λ i r k. search rules) 52 _ refl refl c.find_map.result c.find_map.ensures.runs
