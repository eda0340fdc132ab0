use Rattle.std.proofs.Common.{◌≡◌, ℕ, ◌+◌, ◌≤◌, List, length}
use lib.Seq.{paste}
use Rattle.device.specs.Words.{resting}
use Rattle.write_log.proofs.Storing.{Storing}
use Rattle.write_log.proofs.runs.put_run.Given as goal

abbrev pub invariant-loop-i : goal.invariant-loop-i
invariant-loop-i g l = let m = g.M.Module.meaning in
    (W : List ℕ) → m l.initial.memory ≡ resting W → l.start + length l.run ≤ length W → Storing W l.start l.i (paste W l.start l.run l.i) (m l.memory)
