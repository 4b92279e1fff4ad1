use Rattle.std.proofs.Common.{rules}
use Rattle.sealing.proofs.Promises.{compares_as_sealed}
use Rattle.sealing.proofs.comparer.compare.Goals as goal

pub returns-in-Equal-clause-as_the_values : goal.returns-in-Equal-clause-as_the_values
returns-in-Equal-clause-as_the_values c = compares_as_sealed c.args.a.now c.args.b.now c.compare_trits.result (search rules)

pub returns-in_default-clause-as_the_values : goal.returns-in_default-clause-as_the_values
returns-in_default-clause-as_the_values c = compares_as_sealed c.args.a.now c.args.b.now _ (search rules)
