use Rattle.std.proofs.Common.{arith}
use Rattle.tree.proofs.Soundness.{stands_from_test}
use Rattle.tree.proofs.Spots.{tree_placed}
use Rattle.tree.proofs.trees.Tree.found.Goals as goal

pub find_below-requires : goal.find_below-requires
find_below-requires g c = (_, tree_placed _ _ _ (stands_from_test _ _ c.args.self.now.ok) 250 (omega arith))
