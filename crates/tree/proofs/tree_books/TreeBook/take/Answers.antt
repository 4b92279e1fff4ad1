use Rattle.avl.specs.Model.{tree_step}
use Rattle.tree.specs.States.{model_of}
use Rattle.tree.proofs.Soundness.{stands_from_test}
use Rattle.tree.proofs.Spots.{can_shrink}
use Rattle.tree.proofs.Steps.{Begun, begins}
use Rattle.tree.proofs.Taking.{gone_inside, pair_held, taken_done, not_taken_done}
use Rattle.tree.proofs.tree_books.TreeBook.take.Goals as goal
use Rattle.tree.proofs.tree_books.TreeBook.take.Goals.{In_ok-start}

begun : (g : _) (c : In_ok-start g) → Begun g.K.OrderedKey.order (tree_step g.K.OrderedKey.order (model_of c.args.self.now.nodes.now c.args.self.now.state))
    c.start.new.self.nodes.now c.start.new.self.state (model_of c.start.new.self.nodes.now c.start.new.self.state)
begun g c = begins g.K.OrderedKey.order c.args.self.now.state c.start.new.self.ok c.start.ensures.nodes c.start.ensures.state c.start.ensures.served c.in_ok-start.was

pub remove-shrunk-requires : goal.remove-shrunk-requires
remove-shrunk-requires g c = (_, can_shrink _ _ _ (stands_from_test _ _ c.start.new.self.ok))

pub invariant_of-self : goal.invariant_of-self
invariant_of-self g c =
    let done = not_taken_done (begun g (goal.at.invariant_of-self g c).In_ok-start) c.remove-shrunk.auto.nodes c.remove-shrunk.ensures c.in_default.is in
    record { ok = done.leaves.sound }

pub returns-in_default-clause-answer : goal.returns-in_default-clause-answer
returns-in_default-clause-answer g c =
    let done = not_taken_done (begun g (goal.at.returns-in_default-clause-answer g c).In_ok-start) c.remove-shrunk.auto.nodes c.remove-shrunk.ensures c.in_default.is in
    done.answers

pub returns-in_default-clause-left : goal.returns-in_default-clause-left
returns-in_default-clause-left g c =
    let done = not_taken_done (begun g (goal.at.returns-in_default-clause-left g c).In_ok-start) c.remove-shrunk.auto.nodes c.remove-shrunk.ensures c.in_default.is in
    done.leaves.model

pub free_slot-requires : goal.free_slot-requires
free_slot-requires g c = gone_inside (begun g (goal.at.free_slot-requires g c).In_ok-start) c.remove-shrunk.auto.nodes c.remove-shrunk.ensures c.in-Some.is

pub overflow_sub-self : goal.overflow_sub-self
overflow_sub-self g c = pair_held (begun g (goal.at.overflow_sub-self g c).In_ok-start) c.remove-shrunk.auto.nodes c.remove-shrunk.ensures c.in-Some.is

pub invariant_of-self-2 : goal.invariant_of-self-2
invariant_of-self-2 g c =
    let done = taken_done (begun g (goal.at.invariant_of-self-2 g c).In_ok-start) c.remove-shrunk.auto.nodes c.remove-shrunk.ensures c.in-Some.is c.free_slot.ensures in
    record { ok = done.leaves.sound }

pub returns-clause-answer : goal.returns-clause-answer
returns-clause-answer g c =
    let done = taken_done (begun g (goal.at.returns-clause-answer g c).In_ok-start) c.remove-shrunk.auto.nodes c.remove-shrunk.ensures c.in-Some.is c.free_slot.ensures in
    done.answers

pub returns-clause-left : goal.returns-clause-left
returns-clause-left g c =
    let done = taken_done (begun g (goal.at.returns-clause-left g c).In_ok-start) c.remove-shrunk.auto.nodes c.remove-shrunk.ensures c.in-Some.is c.free_slot.ensures in
    done.leaves.model
