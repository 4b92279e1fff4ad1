use Rattle.tree.proofs.Soundness.{stands_from_test}
use Rattle.tree.proofs.trees.Tree.root.Goals as goal

pub returns : goal.returns
returns g c = (stands_from_test _ _ c.args.self.now.ok).tree_stands.linked
