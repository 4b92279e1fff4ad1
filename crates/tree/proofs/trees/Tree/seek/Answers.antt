use Rattle.avl.specs.Model.{tree_step}
use Rattle.tree.specs.States.{model_of}
use Rattle.tree.proofs.Steps.{Begun, begins, sought_done}
use Rattle.tree.proofs.trees.Tree.seek.Goals as goal
use Rattle.tree.proofs.trees.Tree.seek.Goals.{In_ok-start}

begun : (g : _) (c : In_ok-start g) → Begun g.K.OrderedKey.order (tree_step g.K.OrderedKey.order (model_of c.args.self.now.nodes.now c.args.self.now.state))
    c.start.new.self.nodes.now c.start.new.self.state (model_of c.start.new.self.nodes.now c.start.new.self.state)
begun g c = begins g.K.OrderedKey.order c.args.self.now.state c.start.new.self.ok c.start.ensures.nodes c.start.ensures.state c.start.ensures.served c.in_ok-start.was

pub invariant_of-self : goal.invariant_of-self
invariant_of-self g c = record { ok = (sought_done (begun g (goal.at.invariant_of-self g c).In_ok-start) c.args.after c.sought-seeking.ensures).leaves.sound }

pub returns-clause-answer : goal.returns-clause-answer
returns-clause-answer g c = (sought_done (begun g (goal.at.returns-clause-answer g c).In_ok-start) c.args.after c.sought-seeking.ensures).answers

pub returns-clause-left : goal.returns-clause-left
returns-clause-left g c = (sought_done (begun g (goal.at.returns-clause-left g c).In_ok-start) c.args.after c.sought-seeking.ensures).leaves.model
