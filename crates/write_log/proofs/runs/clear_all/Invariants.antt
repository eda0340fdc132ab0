use Rattle.std.proofs.Common.{◌≡◌, ℕ, List, length, replicate}
use lib.Seq.{paste}
use Rattle.device.specs.Words.{resting}
use Rattle.write_log.proofs.Storing.{Storing}
use Rattle.write_log.proofs.runs.clear_all.Given as goal

abbrev pub invariant-loop-i : goal.invariant-loop-i
invariant-loop-i g l = let m = g.M.Module.meaning in
    (W : List ℕ) → m l.initial.memory ≡ resting W → Storing W 0 l.i (paste W 0 (replicate (length W) 0) l.i) (m l.memory)
