use Rattle.std.proofs.Common.{sym, ◌∙◌}
use Rattle.tree.proofs.Soundness.{stands_from_test}
use Rattle.tree.proofs.Showing.{held_shape, free_shape, unused_shape}
use Rattle.tree.proofs.trees.Tree.shape.Goals as goal

pub returns-in-Some : goal.returns-in-Some
returns-in-Some g c = held_shape (stands_from_test _ _ c.args.self.now.ok) c.args.slot (sym c.used.ensures ∙ c.in-Some.is) c.if-n-ne0.true

pub returns-in_default : goal.returns-in_default
returns-in_default g c = free_shape (stands_from_test _ _ c.args.self.now.ok) c.args.slot (sym c.used.ensures ∙ c.in-Some.is) c.if-n-ne0.false

pub returns-in_default-2 : goal.returns-in_default-2
returns-in_default-2 g c = unused_shape (stands_from_test _ _ c.args.self.now.ok) c.args.slot (sym c.used.ensures ∙ c.in_default.is)
