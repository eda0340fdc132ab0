use Rattle.std.proofs.Common.{◌≤◌}
use Rattle.nvlog.specs.Lines.{left}
use Rattle.nvlog.proofs.session.Session.until_log.Given as goal

abbrev pub invariant-loop-line : goal.invariant-loop-line
invariant-loop-line g l = goal.F-IsAlwaysCallable g l.act × left l.lines ≤ left l.initial.lines

abbrev pub decreases-loop-line : goal.decreases-loop-line
decreases-loop-line g l = left l.lines
