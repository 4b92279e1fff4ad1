use Rattle.std.proofs.Common.{◌≡◌}
use Rattle.sealing.specs.MaskingLemmas.{SealedSoFar}
use Rattle.sealing.proofs.sealer.seal_bytes.Given as goal

abbrev pub invariant-loop-i : goal.invariant-loop-i
invariant-loop-i g l =
    (g.S.MaskSource.masks l.source ≡ g.S.MaskSource.masks l.fn.source)
    × SealedSoFar (g.S.MaskSource.masks l.fn.source) l.key l.i (g.S.MaskSource.walked l.source) l.trits
