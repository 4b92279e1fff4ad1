use Rattle.std.proofs.Common.{sym, ◌∙◌}
use Rattle.tree.proofs.Soundness.{stands_from_test}
use Rattle.tree.proofs.Showing.{free_next, held_next, unused_next}
use Rattle.tree.proofs.trees.Tree.free_after.Goals as goal

pub returns-in_err-n : goal.returns-in_err-n
returns-in_err-n g c = c.from_residual.ensures ∙ unused_next (stands_from_test _ _ c.args.self.now.ok) c.args.slot (sym c.used.ensures ∙ c.in_err-n.was)

pub returns-then-n-eq0 : goal.returns-then-n-eq0
returns-then-n-eq0 g c = free_next (stands_from_test _ _ c.args.self.now.ok) c.args.slot (sym c.used.ensures ∙ c.in_ok-n.was) c.if-n-eq0.true

pub returns-else-n-eq0 : goal.returns-else-n-eq0
returns-else-n-eq0 g c = held_next (stands_from_test _ _ c.args.self.now.ok) c.args.slot (sym c.used.ensures ∙ c.in_ok-n.was) c.if-n-eq0.false
