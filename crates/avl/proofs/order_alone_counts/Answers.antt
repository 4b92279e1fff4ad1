use Rattle.avl.proofs.order_alone_counts.Goals as goal
use Rattle.avl.proofs.Commuting.{steps_commute}

pub returns : goal.returns
returns g c = steps_commute _ _
