-- The masks of the two sources.
use Rattle.std.specs.Prelude.{◌≡◌, ℕ, ◌≤◌, ◌+◌, ◌*◌, ◌%◌, Bool, List, [], ◌∷◌, ◌++◌, map, length, take, drop, slice_index}
use mir.Val.{bool_byte}
use Rattle.digits.specs.Positional.{packed, bits}
use Rattle.siphash.specs.SipHash.{word_bytes, siphash}

-- the 33 bytes that stand for a list: its length, then its bits, the most significant place first, filled up with zeros
unfoldable pub walk_text : List Bool → List ℕ
walk_text walked = length walked ∷ packed 2 8 32 (map bool_byte walked)

-- the list that such bytes stand for
unfoldable pub walked_bits : List ℕ → List Bool
walked_bits text = take (slice_index text 0) (bits (drop 1 text))

-- bytes that are the text of the list that they stand for
pub record IsWalkText (text : List ℕ) : Type 0 where
  pub exact : text ≡ walk_text (walked_bits text)
  pub short : length (walked_bits text) ≤ 255

-- the hash source: the mask of a list is one hash of its text under the secret
abbrev pub hash_masks : List ℕ → List Bool → ℕ
hash_masks secret list = siphash secret (walk_text list) % 3

-- the node below a node: under it, the byte 2b hashes to the first half of the node for bit b, and 2b + 1 to the second
unfoldable pub child_node : List ℕ → Bool → List ℕ
child_node node bit =
    word_bytes (siphash node ((2 * bool_byte bit) ∷ [])) ++ word_bytes (siphash node ((2 * bool_byte bit + 1) ∷ []))

-- the node that a list leads to from a root
abbrev pub node_at : List ℕ → List Bool → List ℕ
node_at root [] = root
node_at root (bit ∷ list) = node_at (child_node root bit) list

-- the tree source: the secret is the root, and the mask of a list is the hash of the byte 4 under the node that it leads to
abbrev pub tree_masks : List ℕ → List Bool → ℕ
tree_masks secret list = siphash (node_at secret list) (4 ∷ []) % 3
