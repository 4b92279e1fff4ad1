use Rattle.std.proofs.Common.{◌<◌, length, sym, ap, ◌∙◌, rules}
use Rattle.tree.specs.Sides.{link_on, with_link}
use Rattle.tree.proofs.Standing.{leads_inside}
use Rattle.tree.proofs.Rotations.{side_stands, turns_inner, turns_outer, turns}
use Rattle.tree.proofs.shaping.turn.Goals as goal

pub bounds-nodes-j : goal.bounds-nodes-j
bounds-nodes-j g c = leads_inside c.args.nodes.now _ c.in-Some.j _ (side_stands c.args.node c.args.side c.requires.1.1) (sym c.in-Some.ensures)

pub offset_bounds-nodes-j : goal.offset_bounds-nodes-j
offset_bounds-nodes-j g c = let h : c.in-Some.j < length c.args.nodes.now = bounds-nodes-j g c in search rules

pub put-below-requires : goal.put-below-requires
put-below-requires g c = turns_inner c.args.node c.args.side (sym c.in-Some.ensures) c.index-nodes-j.is
    (c.with_link.ensures ∙ ap (λ l. with_link c.args.side l c.args.node) (c.link-2.ensures ∙ ap (λ s. link_on s c.index-nodes-j.result) c.other-far.ensures)) c.requires

pub put-requires-2 : goal.put-requires-2
put-requires-2 g c = turns_outer c.args.node c.args.side (sym c.in-Some.ensures) c.index-nodes-j.is
    (c.with_link.ensures ∙ ap (λ l. with_link c.args.side l c.args.node) (c.link-2.ensures ∙ ap (λ s. link_on s c.index-nodes-j.result) c.other-far.ensures))
    c.put-below.auto.nodes c.put-below.ensures (c.with_link-2.ensures ∙ ap (λ s. with_link s c.put-below.result c.index-nodes-j.result) c.other-far.ensures) c.requires

pub returns : goal.returns
returns g c = turns c.args.node c.args.side (sym c.in-Some.ensures) c.index-nodes-j.is
    (c.with_link.ensures ∙ ap (λ l. with_link c.args.side l c.args.node) (c.link-2.ensures ∙ ap (λ s. link_on s c.index-nodes-j.result) c.other-far.ensures))
    c.put-below.auto.nodes c.put-below.ensures (c.with_link-2.ensures ∙ ap (λ s. with_link s c.put-below.result c.index-nodes-j.result) c.other-far.ensures) c.put-2.ensures
