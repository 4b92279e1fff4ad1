use Rattle.siphash.specs.SipHash.{sip_round}
use Rattle.siphash.proofs.State.round.Goals as goal

pub returns : goal.returns
unfolding sip_round
returns c = cc
