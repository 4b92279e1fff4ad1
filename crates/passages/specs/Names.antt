-- How names are shown.
use Rattle.std.specs.Prelude.{ℕ, Bool, List}
use Rattle.std.specs.Char.{is_ascii_graphic}
use Rattle.std.specs.List.{list_all}

-- bytes 33 to 126, which print as themselves and are no blanks
abbrev pub graphic_only : List ℕ → Bool
graphic_only bs = list_all is_ascii_graphic bs
