use Rattle.std.proofs.Common.{rules}
use Rattle.masks.specs.SourcesLemmas.{node_at_push}
use Rattle.masks.proofs.tree_source.TreeSourceMaskSource.step.Goals as goal

pub invariant_of-self-2-clause-reached : goal.invariant_of-self-2-clause-reached
invariant_of-self-2-clause-reached c = search (rules, node_at_push)
