use Rattle.std.proofs.Common.{◌≡◌, ℕ, ◌<◌, ◌≤◌, get_or}
use Rattle.memory.specs.Plans.{found_at}
use Rattle.memory.proofs.staged.find_words.Given as goal

abbrev pub invariant-loop-i : goal.invariant-loop-i
invariant-loop-i l = record {
  found : (j : ℕ) → j < l.i → get_or l.current j 0 ≡ found_at l.pattern l.initial.current l.sure j;
  rest : (j : ℕ) → l.i ≤ j → get_or l.current j 0 ≡ get_or l.initial.current j 0;
}
