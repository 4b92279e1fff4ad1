use Rattle.siphash.specs.SipHash.{siphash, last_word}
use Rattle.siphash.proofs.hash.Goals as goal

pub returns : goal.returns
unfolding siphash last_word
returns c = cc
