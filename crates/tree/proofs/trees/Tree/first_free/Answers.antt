use Rattle.tree.proofs.Soundness.{stands_from_test}
use Rattle.tree.proofs.Showing.{chain_shows}
use Rattle.tree.proofs.trees.Tree.first_free.Goals as goal

pub returns : goal.returns
returns g c = chain_shows _ _ _ (stands_from_test _ _ c.args.self.now.ok).free_stands
