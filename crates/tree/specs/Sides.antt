-- The two sides of a node, and the links to them.
use Rattle.std.specs.Prelude.{Some, None, Option}
use Rattle.std.specs.declared.cmp.Ordering.{Ordering}
use Rattle.std.specs.declared.cmp.Ordering.TheVariants.{Less, Equal, Greater}
use Rattle.tree.specs.Links.{Link}
use Rattle.tree.specs.declared.nodes.Node.{Node}
use Rattle.tree.specs.declared.nodes.Side.{Side}
use Rattle.tree.specs.declared.nodes.Side.TheVariants.{Left, Right}

-- the side that a key is on, by how it compares with the node's key
abbrev pub side_of : Ordering → Option Side
side_of Less = Some Left
side_of Equal = None
side_of Greater = Some Right

abbrev pub other : Side → Side
other Left = Right
other Right = Left

-- one of two, by the side
abbrev pub on : {X : Type 0} → Side → X → X → X
on Left x y = x
on Right x y = y

abbrev pub link_on : {K : Type 0} → Side → Node K → Link
link_on side n = on side n.left n.right

-- the node with another tree on a side
abbrev pub with_link : {K : Type 0} → Side → Link → Node K → Node K
with_link side at n = record { entry = n.entry; left = on side at n.left; right = on side n.right at; height = n.height }
