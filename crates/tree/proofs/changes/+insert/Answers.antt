use Rattle.std.proofs.Common.{◌<◌, length, sym, ap, ◌∙◌, arith, rules}
use Rattle.tree.specs.Sides.{side_of}
use Rattle.tree.proofs.Standing.{leads_inside}
use Rattle.tree.proofs.Inserting.{side_falls, side_changeable, meets, side_few, passed_up, grown_joins, grown_settles}
use Rattle.tree.proofs.changes.+insert.Goals as goal
use Rattle.tree.proofs.changes.+insert.Goals.{in-Ok, in-Err}

pub bounds-nodes-i : goal.bounds-nodes-i
bounds-nodes-i g t c = leads_inside c.args.nodes.now c.args.at c.in-Some.i c.requires.0 c.requires.1.placed.stands c.in-Some.is

pub offset_bounds-nodes-i : goal.offset_bounds-nodes-i
offset_bounds-nodes-i g t c = let h : c.in-Some.i < length c.args.nodes.now = bounds-nodes-i g t c in search rules

pub returns-in_default-of : goal.returns-in_default-of
returns-in_default-of g t c tree h = meets c.in-Some.is c.index-nodes-i.is h g.K.OrderedKey.order c.args.entry.now.key c.args.entry.now.ticket (ap side_of (sym c.compare.ensures) ∙ sym c.of.ensures ∙ c.in_default-of.is)

pub insert-below-requires : goal.insert-below-requires
insert-below-requires g t c κs within = (omega (arith, side_falls c.in-Some.is c.index-nodes-i.is c.requires.1 c.in-Some-of.side c.link.ensures, c.decreases), (within, side_changeable c.in-Some.is c.index-nodes-i.is c.requires.1 c.in-Some-of.side c.link.ensures))

pub overflow_add-result : goal.overflow_add-result
overflow_add-result g t c = let few = side_few c.in-Some.is c.index-nodes-i.is c.requires.1 c.in-Some-of.side c.link.ensures c.insert-below.ensures in omega arith

pub settle-requires : goal.settle-requires
settle-requires g t c =
    grown_joins c.in-Some.is c.index-nodes-i.is c.requires.1 c.in-Some-of.side c.link.ensures c.insert-below.ensures c.insert-below.auto.nodes c.in-Ok.is c.with_link.ensures

pub returns : goal.returns
returns g t c tree h =
    let here = ap side_of (sym c.compare.ensures) ∙ sym c.of.ensures ∙ c.in-Some-of.is in
    elim c.match-below.branch [
      | in-Ok w ↦ rw (w.nodes-is, w.answer-is) (grown_settles c.in-Some.is c.index-nodes-i.is h c.in-Some-of.side c.link.ensures c.insert-below.ensures c.insert-below.auto.nodes w.in-Ok.is w.with_link.ensures here w.settle.ensures)
      | in-Err w ↦ rw (w.nodes-is, w.answer-is) (passed_up c.in-Some.is c.index-nodes-i.is h c.in-Some-of.side c.link.ensures c.insert-below.ensures here w.in-Err.is)
    ]
