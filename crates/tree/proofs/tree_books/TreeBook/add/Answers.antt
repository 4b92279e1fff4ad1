use Rattle.std.proofs.Common.{arith}
use Rattle.std.proofs.lemmas.Result.{err_from_is_err_and}
use Rattle.avl.specs.Model.{tree_step}
use Rattle.tree.specs.States.{model_of}
use Rattle.tree.proofs.Soundness.{sound_counted, stands_from_test}
use Rattle.tree.proofs.Spots.{can_grow}
use Rattle.tree.proofs.Steps.{Begun, begins}
use Rattle.tree.proofs.Adding.{added_done, count_fits, not_added_done}
use Rattle.tree.proofs.tree_books.TreeBook.add.Goals as goal
use Rattle.tree.proofs.tree_books.TreeBook.add.Goals.{In_ok-start}

begun : (g : _) (c : In_ok-start g) → Begun g.K.OrderedKey.order (tree_step g.K.OrderedKey.order (model_of c.args.self.now.nodes.now c.args.self.now.state))
    c.start.new.self.nodes.now c.start.new.self.state (model_of c.start.new.self.nodes.now c.start.new.self.state)
begun g c = begins g.K.OrderedKey.order c.args.self.now.state c.start.new.self.ok c.start.ensures.nodes c.start.ensures.state c.start.ensures.served c.in_ok-start.was

pub insert-grown-requires : goal.insert-grown-requires
insert-grown-requires g c = (_, can_grow _ _ _ (stands_from_test _ _ c.start.new.self.ok) _ c.next_spot-spot.ensures)

pub overflow_add-self : goal.overflow_add-self
overflow_add-self g c =
    let fits = count_fits (begun g (goal.at.overflow_add-self g c).In_ok-start) c.next_spot-spot.ensures c.insert-grown.auto.nodes c.insert-grown.ensures c.in_ok-root.was in
    omega arith

pub invariant_of-self : goal.invariant_of-self
invariant_of-self g c =
    let done = not_added_done (begun g (goal.at.invariant_of-self g c).In_ok-start) c.next_spot-spot.ensures c.insert-grown.auto.nodes c.insert-grown.ensures c.in_err-root.was in
    record { ok = sound_counted _ _ _ done.leaves.sound }

pub invariant_of-self-2 : goal.invariant_of-self-2
invariant_of-self-2 g c =
    let done = added_done (begun g (goal.at.invariant_of-self-2 g c).In_ok-start) c.next_spot-spot.ensures c.insert-grown.auto.nodes c.insert-grown.ensures c.in_ok-root.was in
    record { ok = done.leaves.sound }

pub returns-in_err-root-clause-answer : goal.returns-in_err-root-clause-answer
returns-in_err-root-clause-answer g c =
    let done = not_added_done (begun g (goal.at.returns-in_err-root-clause-answer g c).In_ok-start) c.next_spot-spot.ensures c.insert-grown.auto.nodes c.insert-grown.ensures c.in_err-root.was in
    let told = err_from_is_err_and c.from_residual-in_err-root.result c.from_residual-in_err-root.ensures.1 in
    rw (told.1, told.2) done.answers

pub returns-in_err-root-clause-left : goal.returns-in_err-root-clause-left
returns-in_err-root-clause-left g c =
    let done = not_added_done (begun g (goal.at.returns-in_err-root-clause-left g c).In_ok-start) c.next_spot-spot.ensures c.insert-grown.auto.nodes c.insert-grown.ensures c.in_err-root.was in
    done.leaves.model

pub returns-clause-answer : goal.returns-clause-answer
returns-clause-answer g c =
    let done = added_done (begun g (goal.at.returns-clause-answer g c).In_ok-start) c.next_spot-spot.ensures c.insert-grown.auto.nodes c.insert-grown.ensures c.in_ok-root.was in
    done.answers

pub returns-clause-left : goal.returns-clause-left
returns-clause-left g c =
    let done = added_done (begun g (goal.at.returns-clause-left g c).In_ok-start) c.next_spot-spot.ensures c.insert-grown.auto.nodes c.insert-grown.ensures c.in_ok-root.was in
    done.leaves.model
