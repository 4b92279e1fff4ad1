-- The way to a node: absent, or the slot that it stands in.
use Rattle.std.specs.Prelude.{ℕ, Option}

abbrev pub Link : Type 0
Link = Option ℕ
