use Rattle.passages.specs.Sessions.{work_left}
use Rattle.passages.proofs.sessions.Session.run.Given as goal

abbrev pub decreases-loop-next : goal.decreases-loop-next
decreases-loop-next l = work_left l.next l.self.lines
