use Rattle.std.proofs.Common.{refl, zero-le}
use Rattle.masks.specs.Sources.{walk_text, walked_bits}
use Rattle.masks.proofs.walk.Walk.new.Goals as goal

pub invariant_of-result : goal.invariant_of-result
unfolding walk_text walked_bits
invariant_of-result c = record { exact = refl; short = zero-le }

pub returns : goal.returns
unfolding walked_bits
returns c = refl
