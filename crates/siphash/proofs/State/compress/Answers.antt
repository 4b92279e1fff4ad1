use Rattle.siphash.specs.SipHash.{compress}
use Rattle.siphash.proofs.State.compress.Goals as goal

pub returns : goal.returns
unfolding compress
returns c = cc
