use Rattle.std.proofs.Common.{◌<◌, length, ap, ◌∙◌, subst, arith, rules}
use Rattle.tree.specs.Shaping.{Joins, turn}
use Rattle.tree.specs.Sides.{link_on}
use Rattle.tree.specs.Standing.{height_at}
use Rattle.tree.proofs.Standing.{leads_inside}
use Rattle.tree.proofs.Settling.{root_joins, part_reaches, readies, is_ready}
use Rattle.tree.proofs.shaping.ready.Goals as goal

pub bounds-nodes-j : goal.bounds-nodes-j
bounds-nodes-j g c = leads_inside c.args.nodes.now c.args.at c.in-Some.j c.requires.0 c.requires.1.stands c.in-Some.is

pub offset_bounds-nodes-j : goal.offset_bounds-nodes-j
offset_bounds-nodes-j g c = let h : c.in-Some.j < length c.args.nodes.now = bounds-nodes-j g c in search rules

pub height_at-outer-requires : goal.height_at-outer-requires
height_at-outer-requires g c = rw c.link.ensures (part_reaches c.in-Some.is c.index-nodes-j.is c.requires.1 c.args.side)

pub height_at-inner-requires : goal.height_at-inner-requires
height_at-inner-requires g c = rw c.link-2.ensures (part_reaches c.in-Some.is c.index-nodes-j.is c.requires.1 c.other-far.result)

pub turn-requires : goal.turn-requires
turn-requires g c = root_joins c.in-Some.is c.index-nodes-j.is c.requires.1

pub returns-then-outer-inner : goal.returns-then-outer-inner
returns-then-outer-inner g c t p =
    let outer = c.height_at-outer.ensures ∙ ap (height_at c.args.nodes.now) c.link.ensures in
    let inner = c.height_at-inner.ensures ∙ ap (height_at c.args.nodes.now) (c.link-2.ensures ∙ ap (λ s. link_on s c.index-nodes-j.result) c.other-far.ensures) in
    readies c.in-Some.is c.index-nodes-j.is p c.args.side (omega (arith, outer, inner, c.if-outer-inner.true))
    (subst (λ s. Joins 253 (turn s) c.args.nodes.now c.in-Some.j c.index-nodes-j.result c.turn.new.nodes c.turn.result) c.other-far.ensures c.turn.ensures)

pub returns-else-outer-inner : goal.returns-else-outer-inner
returns-else-outer-inner g c t p =
    let outer = c.height_at-outer.ensures ∙ ap (height_at c.args.nodes.now) c.link.ensures in
    let inner = c.height_at-inner.ensures ∙ ap (height_at c.args.nodes.now) (c.link-2.ensures ∙ ap (λ s. link_on s c.index-nodes-j.result) c.other-far.ensures) in
    is_ready c.in-Some.is c.index-nodes-j.is p c.args.side (omega (arith, outer, inner, c.if-outer-inner.false))
