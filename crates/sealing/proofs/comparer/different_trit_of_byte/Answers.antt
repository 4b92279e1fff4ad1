use Rattle.std.proofs.Common.{arith}
use Rattle.sealing.proofs.Comparing.{same_byte}
use Rattle.sealing.proofs.comparer.different_trit_of_byte.Goals as goal

pub returns-then-a-i : goal.returns-then-a-i
returns-then-a-i c = same_byte c.args.a.now c.args.b.now c.args.i (omega arith) (omega arith) c.if-a-i.true
