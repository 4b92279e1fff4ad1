use Rattle.std.proofs.Common.{◌<◌, length, sym, ap, ◌∙◌, arith, rules}
use Rattle.tree.specs.Sides.{side_of}
use Rattle.tree.proofs.Removing.{root, sided, falls, changeable, side_few, stays_on, removal_rejoins, removal_settles, root_goes}
use Rattle.tree.proofs.Standing.{leads_inside}
use Rattle.tree.proofs.changes.+remove.Goals as goal
use Rattle.tree.proofs.changes.+remove.Goals.{in-Some-answer, in-None}

pub bounds-nodes-i : goal.bounds-nodes-i
bounds-nodes-i g t c = leads_inside c.args.nodes.now c.args.at c.in-Some.i c.requires.0 c.requires.1.placed.stands c.in-Some.is

pub offset_bounds-nodes-i : goal.offset_bounds-nodes-i
offset_bounds-nodes-i g t c = let h : c.in-Some.i < length c.args.nodes.now = bounds-nodes-i g t c in search rules

pub returns-in_default-of : goal.returns-in_default-of
returns-in_default-of g t c = root_goes (root c.args.nodes.now c.in-Some.is c.index-nodes-i.is) (ap side_of (sym c.compare.ensures) ∙ sym c.of.ensures ∙ c.in_default-of.is) c.take_root.ensures

pub take_root-requires : goal.take_root-requires
take_root-requires g t c = sided (root c.args.nodes.now c.in-Some.is c.index-nodes-i.is) c.requires

pub remove-below-requires : goal.remove-below-requires
remove-below-requires g t c κs within =
    let r = root c.args.nodes.now c.in-Some.is c.index-nodes-i.is in
    (omega (arith, falls r c.in-Some-of.side c.link.ensures c.requires, c.decreases), (within, changeable c.index-nodes-i.result c.in-Some-of.side c.link.ensures (sided r c.requires)))

pub overflow_add-result : goal.overflow_add-result
overflow_add-result g t c =
    let few = side_few (root c.args.nodes.now c.in-Some.is c.index-nodes-i.is) c.in-Some-of.side c.link.ensures c.remove-below.ensures c.requires in
    omega arith

pub close-requires : goal.close-requires
close-requires g t c =
    removal_rejoins (root c.args.nodes.now c.in-Some.is c.index-nodes-i.is) c.in-Some-of.side c.link.ensures c.remove-below.ensures (ap side_of (sym c.compare.ensures) ∙ sym c.of.ensures ∙ c.in-Some-of.is)
    c.remove-below.auto.nodes c.in-Some-answer.is c.requires

pub returns : goal.returns
returns g t c =
    let r = root c.args.nodes.now c.in-Some.is c.index-nodes-i.is in
    let here = ap side_of (sym c.compare.ensures) ∙ sym c.of.ensures ∙ c.in-Some-of.is in
    elim c.match-below.branch [
      | in-Some-answer w ↦ rw (w.nodes-is, w.answer-is) (removal_settles r c.in-Some-of.side c.link.ensures c.remove-below.ensures here c.remove-below.auto.nodes w.in-Some-answer.is w.close.ensures.same w.close.ensures.left)
      | in-None w ↦ rw (w.nodes-is, w.answer-is) (stays_on r c.in-Some-of.side c.link.ensures c.remove-below.ensures here w.in-None.is)
    ]
