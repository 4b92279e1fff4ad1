use Rattle.std.proofs.Common.{◌<◌, length, rules}
use Rattle.tree.proofs.Soundness.{stands_from_test}
use Rattle.tree.proofs.Spots.{freed_inside, next_freed, next_unused, none_left}
use Rattle.tree.proofs.trees.Tree.next_spot.Goals as goal

pub bounds-self-i : goal.bounds-self-i
bounds-self-i g c = freed_inside _ _ _ (stands_from_test _ _ c.args.self.now.ok) c.in-Some.i c.in-Some.is

pub offset_bounds-self-i : goal.offset_bounds-self-i
offset_bounds-self-i g c = let h : c.in-Some.i < length c.args.self.now.nodes.now = bounds-self-i g c in search rules

pub returns-in-Some : goal.returns-in-Some
returns-in-Some g c = next_freed _ _ _ (stands_from_test _ _ c.args.self.now.ok) c.in-Some.i c.index-self-i.result c.in-Some.is

pub returns-in-None : goal.returns-in-None
returns-in-None g c = next_unused _ _ _ (stands_from_test _ _ c.args.self.now.ok) c.in-None.is c.requires.served c.if-self.true

pub returns-in-None-2 : goal.returns-in-None-2
returns-in-None-2 g c = none_left _ _ _ (stands_from_test _ _ c.args.self.now.ok) c.in-None.is c.requires.served c.if-self.false
