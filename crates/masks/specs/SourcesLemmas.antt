-- Facts on the masks of the two sources.
use Rattle.std.specs.Prelude.{◌≡◌, ℕ, ◌<◌, Bool, List, [], ◌∷◌, ◌++◌, refl}
use Rattle.std.proofs.Common.{mod-lt, lit<}
use Rattle.masks.specs.Sources.{hash_masks, child_node, node_at, tree_masks}

pub hash_masks_small : (secret : List ℕ) (list : List Bool) → hash_masks secret list < 3
hash_masks_small secret list = mod-lt _ (lit< tt)

pub tree_masks_small : (secret : List ℕ) (list : List Bool) → tree_masks secret list < 3
tree_masks_small secret list = mod-lt _ (lit< tt)

pub node_at_push : (root : List ℕ) (list : List Bool) (bit : Bool) → node_at root (list ++ bit ∷ []) ≡ child_node (node_at root list) bit
node_at_push root [] bit = refl
node_at_push root (b ∷ list) bit = node_at_push (child_node root b) list bit
