use Rattle.avl.specs.Avl.{Avl}
use Rattle.tree.specs.Standing.{height_at, Placed}
use Rattle.tree.proofs.Descending.{SeeksOn}
use Rattle.tree.proofs.descents.seek_below.Given as goal

abbrev pub invariant-loop-at : goal.invariant-loop-at
invariant-loop-at g l = (t : Avl g.row.K.Denot) → Placed 250 l.nodes l.initial.at t → SeeksOn l.after g.K.OrderedKey.order l.nodes l.key l.above t l.at l.compared

abbrev pub decreases-loop-at : goal.decreases-loop-at
decreases-loop-at g l = height_at l.nodes l.at
