use Rattle.tree.specs.Standing.{height_at}
use Rattle.tree.proofs.changes.+insert.Given as goal

abbrev pub decreases-insert : goal.decreases-insert
decreases-insert g l = height_at l.nodes.now l.at
