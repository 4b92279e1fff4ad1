use Rattle.tree.proofs.Soundness.{sound_counted}
use Rattle.tree.proofs.trees.Tree.start.Goals as goal

pub invariant_of-self : goal.invariant_of-self
invariant_of-self g c = record { ok = sound_counted _ _ 0 c.args.self.now.ok }
