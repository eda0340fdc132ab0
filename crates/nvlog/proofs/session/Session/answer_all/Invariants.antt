use Rattle.std.proofs.Common.{◌+◌, cond, is_some}
use Rattle.nvlog.specs.Lines.{left}
use Rattle.nvlog.proofs.session.Session.answer_all.Given as goal

abbrev pub decreases-loop-next : goal.decreases-loop-next
decreases-loop-next g l = left l.lines + cond (is_some l.next) 1 0
