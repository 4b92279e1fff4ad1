use Rattle.books.proofs.Relabelling.{steps_commute}
use Rattle.books.proofs.laws.plain_steps_follow_the_order.Goals as goal

pub returns : goal.returns
returns g c = steps_commute _ _
