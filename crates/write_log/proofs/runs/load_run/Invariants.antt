use Rattle.std.proofs.Common.{◌≡◌, ℕ, ◌+◌, ◌<◌, ◌≤◌}
use Rattle.device.specs.ModuleCalls.{Kept}
use Rattle.device.specs.Words.{word}
use Rattle.write_log.proofs.runs.load_run.Given as goal

abbrev pub invariant-loop-i : goal.invariant-loop-i
invariant-loop-i g l = let m = g.M.Module.meaning in record {
  lit : (m l.memory).lit ≡ (m l.initial.memory).lit;
  kept : Kept (m l.initial.memory) (m l.memory);
  read : (k : ℕ) → k < l.i → word l.out k ≡ word (m l.initial.memory).current (l.start + k);
  rest : (k : ℕ) → l.i ≤ k → word l.out k ≡ word l.initial.out k;
}
