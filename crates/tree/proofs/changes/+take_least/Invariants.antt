use Rattle.std.proofs.Common.{Some}
use Rattle.tree.specs.Standing.{height_at}
use Rattle.tree.proofs.changes.+take_least.Given as goal

abbrev pub decreases-take_least : goal.decreases-take_least
decreases-take_least g l = height_at l.nodes.now (Some l.i)
