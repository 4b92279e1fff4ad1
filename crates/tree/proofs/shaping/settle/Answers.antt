use Rattle.std.proofs.Common.{Some, None, sym, ap, subst, ◌∙◌}
use Rattle.tree.specs.Shaping.{Turns, ready, heavy}
use Rattle.tree.specs.Standing.{height_at}
use Rattle.tree.proofs.Standing.{reaches}
use Rattle.tree.proofs.Settling.{sides_fit, heavy_by, side_holds, settles_even, comes_up, settles}
use Rattle.tree.proofs.shaping.settle.Goals as goal

pub height_at-right-requires : goal.height_at-right-requires
height_at-right-requires g c = reaches c.args.nodes.now c.args.node.right c.requires.1.0 c.requires.1.1.right_stands

pub heavy-requires : goal.heavy-requires
heavy-requires g c = rw (c.height_at-left.ensures, c.height_at-right.ensures) (sides_fit c.args.node c.requires.1.1)

pub returns-in_default : goal.returns-in_default
returns-in_default g c a b j =
    let even = heavy_by _ _ None (sym c.in_default.is ∙ c.heavy.ensures ∙ ap (λ l. heavy l c.height_at-right.result) c.height_at-left.ensures ∙ ap (heavy (height_at c.args.nodes.now c.args.node.left)) c.height_at-right.ensures) in
    settles_even c.args.node j even c.put.ensures

pub ready-up-requires : goal.ready-up-requires
ready-up-requires g c = rw c.link.ensures (side_holds c.args.node c.requires.1.1 c.in-Some.side)

pub turn-requires : goal.turn-requires
turn-requires g c =
    let up = subst (λ l. Turns 251 (ready c.in-Some.side) c.args.nodes.now l c.ready-up.new.nodes c.ready-up.result) c.link.ensures c.ready-up.ensures in
    comes_up c.args.node c.requires.1.1 c.in-Some.side c.ready-up.auto.nodes up c.with_link.ensures

pub returns : goal.returns
returns g c a b j =
    let up = subst (λ l. Turns 251 (ready c.in-Some.side) c.args.nodes.now l c.ready-up.new.nodes c.ready-up.result) c.link.ensures c.ready-up.ensures in
    let leans = heavy_by _ _ (Some c.in-Some.side) (sym c.in-Some.is ∙ c.heavy.ensures ∙ ap (λ l. heavy l c.height_at-right.result) c.height_at-left.ensures ∙ ap (heavy (height_at c.args.nodes.now c.args.node.left)) c.height_at-right.ensures) in
    settles c.args.node j c.in-Some.side c.ready-up.auto.nodes up c.with_link.ensures leans c.turn.ensures
