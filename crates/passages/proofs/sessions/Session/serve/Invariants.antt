use Rattle.std.proofs.Common.{◌≤◌}
use Rattle.passages.specs.Sessions.{lines_left}
use Rattle.passages.proofs.sessions.Session.serve.Given as goal

-- no lines come back
abbrev pub invariant-loop-line : goal.invariant-loop-line
invariant-loop-line g l = lines_left l.self.lines ≤ lines_left l.fn.self.lines

abbrev pub decreases-loop-line : goal.decreases-loop-line
decreases-loop-line g l = lines_left l.self.lines
