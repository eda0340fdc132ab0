use Rattle.std.proofs.Common.{◌≡◌, ℕ, ◌<◌, get_or}
use Rattle.layout.specs.Packing.{packed_word}
use Rattle.layout.proofs.packing.pack.Given as goal

abbrev pub invariant-loop-j : goal.invariant-loop-j
invariant-loop-j l = (k : ℕ) → k < l.j → get_or l.words k 0 ≡ packed_word l.bytes k
