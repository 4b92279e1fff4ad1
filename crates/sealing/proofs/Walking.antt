-- A source that walks along has room: its steps go on.
use Rattle.std.proofs.Common.{◌≡◌, ◌<◌, Bool, List, [], ◌∷◌, ◌++◌, length, lt-ltb}
use Rattle.std.proofs.lemmas.Bool.{cond-true}
use Rattle.masks.specs.Walks.{has_room, stepped}

module _ (walked : List Bool) (room : length walked < 255) where
  pub steps_on : (bit : Bool) → stepped walked bit ≡ walked ++ bit ∷ []
  steps_on bit = cond-true (has_room walked) (walked ++ bit ∷ []) walked (lt-ltb (length walked) 255 room)
