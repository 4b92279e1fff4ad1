use Rattle.std.proofs.Common.{arith}
use Rattle.tree.proofs.Standing.{reaches}
use Rattle.tree.proofs.Rotations.{joined_height, forks}
use Rattle.tree.proofs.shaping.put.Goals as goal

pub height_at-b-requires : goal.height_at-b-requires
height_at-b-requires g c = reaches c.args.nodes.now c.args.node.right c.requires.1.0 c.requires.1.1.right_stands

pub overflow_add-height : goal.overflow_add-height
overflow_add-height g c = let h = joined_height c.args.node c.requires.1.1 in omega (arith, c.requires.1.1.left_low, c.requires.1.1.right_low)

pub returns : goal.returns
returns g c a b j = forks c.args.node j c.max-height.result (let e = c.height_at-a.ensures in let f = c.height_at-b.ensures in let m = c.max-height.ensures in cc)
