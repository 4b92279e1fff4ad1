use Rattle.std.proofs.Common.{sym}
use Rattle.tree.specs.declared.nodes.Side.TheVariants.{Right}
use Rattle.tree.proofs.Removing.{changeable, least_replaces, least_joins}
use Rattle.tree.proofs.changes.take_root.Goals as goal

pub take_least-least-requires : goal.take_least-least-requires
take_least-least-requires g c = changeable c.args.node Right (sym c.in-Some-Some.is-1) c.requires

pub settle-requires : goal.settle-requires
settle-requires g c = least_replaces c.args.node c.in-Some-Some.is-1 c.take_least-least.auto.nodes c.take_least-least.ensures c.requires

pub returns-in-Some-Some : goal.returns-in-Some-Some
returns-in-Some-Some g c = least_joins c.args.node c.in-Some-Some.is-1 c.take_least-least.auto.nodes c.take_least-least.ensures c.in-Some-Some.is-0 c.settle.ensures
