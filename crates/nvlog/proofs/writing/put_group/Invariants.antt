use Rattle.std.proofs.Common.{◌≡◌, ℕ, ◌+◌, ◌*◌, ◌/◌, ◌<◌, List, length, drop}
use Rattle.std.specs.Iterator.Adapters.{enumerate_count, enumerate_source}
use Rattle.std.specs.Slice.Iter.{chunks_rest, chunks_size}
use Rattle.device.specs.Words.{Words, resting}
use Rattle.layout.specs.Entries.{Group}
use Rattle.layout.specs.Groups.{words_upto, laid}
use Rattle.layout.specs.Places.{width_of}
use Rattle.nvlog.proofs.writing.put_group.Given as goal

-- d entries of the words of a group were taken, and put from position p on, round a circle of n
pub record PutSoFar (n p : ℕ) (words : List ℕ) (before after : Words) (d : ℕ) (left : List ℕ) (most : ℕ) : Type 0 where
  pub rest : left ≡ drop (68 * d) words
  pub size : most ≡ 68
  pub few : 68 * d < length words + 68
  pub stands : (W : List ℕ) → before ≡ resting W → length W ≡ width_of n → (g : Group) → words ≡ words_upto g (length words / 68) → after ≡ resting (laid n p g W d)

abbrev pub invariant-loop-d : goal.invariant-loop-d
invariant-loop-d g l =
    let it = l.d-iterator in
    let m = g.M.Module.meaning in
    PutSoFar l.entries.n l.position l.group (m l.initial.memory) (m l.memory) (enumerate_count it) (chunks_rest (enumerate_source it)) (chunks_size (enumerate_source it))
