use Rattle.std.proofs.Common.{◌≡◌, length}
use Rattle.sealing.proofs.Unmasking.{OpenedSoFar}
use Rattle.sealing.proofs.opener.open_bytes.Given as goal

abbrev pub invariant-loop-i : goal.invariant-loop-i
invariant-loop-i g l =
    (g.S.MaskSource.masks l.source ≡ g.S.MaskSource.masks l.fn.source)
    × OpenedSoFar (g.S.MaskSource.masks l.fn.source) l.sealed (length l.fn.key) l.i (g.S.MaskSource.walked l.source) l.key
