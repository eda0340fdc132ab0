use Rattle.std.proofs.Common.{◌≡◌, ℕ, ◌*◌, ◌≤◌, List, map, length, drop, vec_items}
use Rattle.std.specs.Iterator.Adapters.{enumerate_count, enumerate_source}
use Rattle.std.specs.List.{range_with_len}
use Rattle.std.specs.Slice.Iter.{chunks_rest, chunks_size}
use Rattle.layout.specs.declared.entries.Piece.{Piece}
use Rattle.layout.specs.Entries.{plain}
use Rattle.layout.specs.Writes.{entries_for, piece_of}
use Rattle.layout.proofs.writes.split.Given as goal

-- d chunks were taken, and became the first d pieces
pub record Taken (offset : ℕ) (bs : List ℕ) (ps : List Piece) (d : ℕ) (left : List ℕ) (most : ℕ) : Type 0 where
  pub pieces : map plain ps ≡ map (piece_of offset bs) (range_with_len 0 d)
  pub count : length ps ≡ d
  pub few : d ≤ entries_for (length bs)
  pub rest : left ≡ drop (512 * d) bs
  pub size : most ≡ 512

abbrev pub invariant-loop-d : goal.invariant-loop-d
invariant-loop-d l = let it = l.d-iterator in Taken l.offset l.bytes (vec_items l.pieces) (enumerate_count it) (chunks_rest (enumerate_source it)) (chunks_size (enumerate_source it))
