use Rattle.siphash.specs.SipHash.{finalize}
use Rattle.siphash.proofs.State.finalize.Goals as goal

pub returns : goal.returns
unfolding finalize
returns c = cc
