use Rattle.tree.proofs.Soundness.{new_means}
use Rattle.tree.proofs.trees.Tree.new.Goals as goal

pub invariant_of-result : goal.invariant_of-result
invariant_of-result g c = record { ok = (new_means c.args.nodes.now).sound }

pub returns : goal.returns
returns g c = (new_means c.args.nodes.now).model
