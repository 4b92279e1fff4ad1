use Rattle.std.proofs.Common.{arith}
use Rattle.tree.specs.declared.nodes.Side.TheVariants.{Left, Right}
use Rattle.tree.proofs.Descending.{few_comparisons, walk_falls, find_ends, find_goes_left, find_goes_right, find_meets}
use Rattle.tree.proofs.descents.find_below.Goals as goal

pub overflow_add-comparisons : goal.overflow_add-comparisons
overflow_add-comparisons g c = omega (arith, few_comparisons (c.loop-at.invariant c.requires.0 c.requires.1) c.requires.1.low)

pub loop-at-smaller-in-Less : goal.loop-at-smaller-in-Less
loop-at-smaller-in-Less g c = walk_falls (c.loop-at.invariant c.requires.0 c.requires.1) c.in-Some.is c.index-nodes-i.is Left

pub loop-at-preserved-in-Less : goal.loop-at-preserved-in-Less
loop-at-preserved-in-Less g c t p = find_goes_left (c.loop-at.invariant t p) c.in-Some.is c.index-nodes-i.is c.in-Less.ensures

pub returns-in-Equal : goal.returns-in-Equal
returns-in-Equal g c t p = find_meets (c.loop-at.invariant t p) c.in-Some.is c.index-nodes-i.is c.in-Equal.ensures

pub loop-at-smaller : goal.loop-at-smaller
loop-at-smaller g c = walk_falls (c.loop-at.invariant c.requires.0 c.requires.1) c.in-Some.is c.index-nodes-i.is Right

pub loop-at-preserved : goal.loop-at-preserved
loop-at-preserved g c t p = find_goes_right (c.loop-at.invariant t p) c.in-Some.is c.index-nodes-i.is c.in-Greater.ensures

pub returns : goal.returns
returns g c t p = find_ends (c.loop-at.invariant t p) c.in_default.is
