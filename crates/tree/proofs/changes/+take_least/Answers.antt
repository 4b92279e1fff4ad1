use Rattle.std.proofs.Common.{◌<◌, length, Some, sym, refl, arith, rules}
use Rattle.tree.specs.declared.nodes.Side.TheVariants.{Left}
use Rattle.tree.proofs.Removing.{root, sided, falls, changeable, least_at_root, least_rejoins, least_at_left}
use Rattle.tree.proofs.Standing.{leads_inside}
use Rattle.tree.proofs.changes.+take_least.Goals as goal

pub bounds-nodes-i : goal.bounds-nodes-i
bounds-nodes-i g t c = leads_inside c.args.nodes.now (Some c.args.i) c.args.i c.requires.0 c.requires.1.placed.stands refl

pub offset_bounds-nodes-i : goal.offset_bounds-nodes-i
offset_bounds-nodes-i g t c = let h : c.args.i < length c.args.nodes.now = bounds-nodes-i g t c in search rules

pub take_least-least-requires : goal.take_least-least-requires
take_least-least-requires g t c κs within =
    let r = root c.args.nodes.now {i = c.args.i} refl c.index-nodes-i.is in
    let left_is = sym c.in-Some.is in
    (omega (arith, falls r Left left_is c.requires, c.decreases), (within, changeable c.index-nodes-i.result Left left_is (sided r c.requires)))

pub close-requires : goal.close-requires
close-requires g t c =
    let r = root c.args.nodes.now {i = c.args.i} refl c.index-nodes-i.is in
    least_rejoins r c.in-Some.is c.take_least-least.auto.nodes c.take_least-least.ensures c.requires

pub returns-in-None : goal.returns-in-None
returns-in-None g t c = least_at_root (root c.args.nodes.now {i = c.args.i} refl c.index-nodes-i.is) c.in-None.is

pub returns-in-Some : goal.returns-in-Some
returns-in-Some g t c =
    let r = root c.args.nodes.now {i = c.args.i} refl c.index-nodes-i.is in
    least_at_left r c.in-Some.is c.take_least-least.auto.nodes c.take_least-least.ensures c.close.ensures.same c.close.ensures.left
