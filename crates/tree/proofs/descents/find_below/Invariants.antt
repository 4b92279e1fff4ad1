use Rattle.avl.specs.Avl.{Avl}
use Rattle.tree.specs.Standing.{height_at, Placed}
use Rattle.tree.proofs.Descending.{FindsOn}
use Rattle.tree.proofs.descents.find_below.Given as goal

abbrev pub invariant-loop-at : goal.invariant-loop-at
invariant-loop-at g l = (t : Avl g.row.K.Denot) → Placed 250 l.nodes l.initial.at t → FindsOn g.K.OrderedKey.order l.nodes l.key t l.at l.comparisons

abbrev pub decreases-loop-at : goal.decreases-loop-at
decreases-loop-at g l = height_at l.nodes l.at
