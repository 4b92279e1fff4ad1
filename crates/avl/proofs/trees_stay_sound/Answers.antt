use Rattle.avl.proofs.trees_stay_sound.Goals as goal
use Rattle.avl.proofs.Soundness.{stays_sound}

pub returns : goal.returns
returns g c = stays_sound _
