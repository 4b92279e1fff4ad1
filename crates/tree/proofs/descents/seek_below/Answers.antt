use Rattle.std.proofs.Common.{arith}
use Rattle.tree.specs.declared.nodes.Side.TheVariants.{Left, Right}
use Rattle.tree.proofs.Descending.{few_comparisons, walk_falls, seek_ends, seek_goes_left, seek_goes_right, seek_passes, seek_meets}
use Rattle.tree.proofs.descents.seek_below.Goals as goal

pub overflow_add-compared : goal.overflow_add-compared
overflow_add-compared g c = omega (arith, few_comparisons (c.loop-at.invariant c.requires.0 c.requires.1) c.requires.1.low)

pub loop-at-smaller-in-Less : goal.loop-at-smaller-in-Less
loop-at-smaller-in-Less g c = walk_falls (c.loop-at.invariant c.requires.0 c.requires.1) c.in-Some.is c.index-nodes-i.is Left

pub loop-at-preserved-in-Less : goal.loop-at-preserved-in-Less
loop-at-preserved-in-Less g c t p = seek_goes_left c.loop-at.above (c.loop-at.invariant t p) c.in-Some.is c.index-nodes-i.is c.in-Less.ensures

pub returns-then-not-after : goal.returns-then-not-after
returns-then-not-after g c t p = seek_meets c.loop-at.above (c.loop-at.invariant t p) c.in-Some.is c.index-nodes-i.is c.in-Equal.ensures c.if-not-after.true

pub loop-at-smaller-in-Equal : goal.loop-at-smaller-in-Equal
loop-at-smaller-in-Equal g c = walk_falls (c.loop-at.invariant c.requires.0 c.requires.1) c.in-Some.is c.index-nodes-i.is Right

pub loop-at-preserved-in-Equal : goal.loop-at-preserved-in-Equal
loop-at-preserved-in-Equal g c t p = seek_passes c.loop-at.above (c.loop-at.invariant t p) c.in-Some.is c.index-nodes-i.is c.in-Equal.ensures c.if-not-after.false

pub loop-at-smaller : goal.loop-at-smaller
loop-at-smaller g c = walk_falls (c.loop-at.invariant c.requires.0 c.requires.1) c.in-Some.is c.index-nodes-i.is Right

pub loop-at-preserved : goal.loop-at-preserved
loop-at-preserved g c t p = seek_goes_right c.loop-at.above (c.loop-at.invariant t p) c.in-Some.is c.index-nodes-i.is c.in-Greater.ensures

pub returns : goal.returns
returns g c t p = seek_ends c.loop-at.above (c.loop-at.invariant t p) c.in_default.is
