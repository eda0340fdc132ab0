-- A write cut into pieces.
use Rattle.std.specs.Prelude.{◌≡◌, ℕ, ◌+◌, ◌*◌, ◌/◌, ◌^◌, ◌<◌, ◌≤◌, true, cond, ◌&&◌, List, map, length, take, drop, Some, None, Ok, Err, vec_items, Option, Result, Vec, ◌==◌, nat_lt}
use Rattle.std.specs.List.{range_with_len, flat_map}
use Rattle.std.specs.declared.alloc.Global.{Global}
use Rattle.device.specs.declared.Failure.{Failure}
use Rattle.device.specs.declared.Failure.TheVariants.{Declined, NoMemory}
use Rattle.device.specs.Numbers.{Told, refusal, told}
use Rattle.layout.specs.declared.entries.Piece.{Piece as Given}
use Rattle.layout.specs.Entries.{Piece, plain}
use Rattle.layout.specs.Groups.{group_fits}

-- how many entries n bytes take
abbrev pub entries_for : ℕ → ℕ
entries_for n = (n + 511) / 512

-- how many a write of n bytes at an offset takes in a file of at most `limit` bytes, or why it is declined
abbrev pub write_for : ℕ → ℕ → ℕ → Result ℕ Told
write_for limit offset n =
    cond (nat_lt 4096 n) (Err (refusal 10 0 n))
    (cond (n == 0) (Ok 0)
    (cond (nat_lt limit (offset + n)) (Err (refusal 11 0 limit))
    (Ok (entries_for n))))

-- piece d: 512 bytes, or what is left, and offsets running on
abbrev pub piece_of : ℕ → List ℕ → ℕ → Piece
piece_of offset bs d = record { offset = offset + 512 * d; bytes = take 512 (drop (512 * d) bs) }

abbrev pub piece_for : ℕ → List ℕ → ℕ → Option Piece
piece_for offset bs d = cond (nat_lt d (entries_for (length bs)) && nat_lt (offset + 512 * d) (2 ^ 64)) (Some (piece_of offset bs d)) None

unfoldable pub split_of : ℕ → List ℕ → List Piece
split_of offset bs = map (piece_of offset bs) (range_with_len 0 (entries_for (length bs)))

-- the pieces of a write that was cut: as many as it takes; joined, they give the write back; and they make a fit group for each row
pub record Cut (limit offset : ℕ) (bs : List ℕ) (ps : List Piece) : Type 0 where
  pub count : write_for limit offset (length bs) ≡ Ok (length ps)
  pub pieces : ps ≡ split_of offset bs
  pub whole : flat_map (λ p. p.bytes) ps ≡ bs
  pub fit : (r : ℕ) → r < 16 → 0 < length bs → limit ≤ 2097152 → group_fits (record { row = r; pieces = ps }) ≡ true

abbrev pub Split : ℕ → ℕ → List ℕ → Result (Vec Given Global) Failure → Type 0
Split limit offset bs (Ok v) = Cut limit offset bs (map plain (vec_items v))
Split limit offset bs (Err (Declined e)) = write_for limit offset (length bs) ≡ Err (told e)
Split limit offset bs (Err NoMemory) = Unit {0}
