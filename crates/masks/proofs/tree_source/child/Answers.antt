use Rattle.masks.specs.Sources.{child_node}
use Rattle.masks.proofs.tree_source.child.Goals as goal

pub returns : goal.returns
unfolding child_node
returns c = cc
