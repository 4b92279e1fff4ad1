use Rattle.tree.specs.Standing.{height_at}
use Rattle.tree.proofs.changes.+remove.Given as goal

abbrev pub decreases-remove : goal.decreases-remove
decreases-remove g l = height_at l.nodes.now l.at
