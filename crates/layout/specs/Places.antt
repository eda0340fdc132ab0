-- Where things stand in the words of a log with N entries.
use Rattle.std.specs.Prelude.{ℕ, ◌+◌, ◌-◌, ◌*◌, ◌%◌, ◌^◌, min, Bool, cond, ◌&&◌, List, [], ◌∷◌, ◌++◌, replicate, Some, None, Ok, Err, Option, Result, nat_le, nat_lt, slice_index}
use Rattle.device.specs.Numbers.{Told, refusal}

-- a log has 9 to 1,024 entries
abbrev pub entries_fit : ℕ → Bool
entries_fit N = nat_le 9 N && nat_le N 1024

abbrev pub width_of : ℕ → ℕ
width_of N = 89 + 68 * N

-- the width for N entries; the place of the refusal stops at the largest 64-bit number
abbrev pub width_for : ℕ → Result ℕ Told
width_for N = cond (entries_fit N) (Ok (width_of N)) (Err (refusal 14 1 (min (width_of N) (2 ^ 64 - 1))))

-- words 0 to 7: the format number, three pairs of offset and length (names, tail, entries), and 0
abbrev pub header_words : ℕ → List ℕ
header_words N = 1 ∷ 8 ∷ 80 ∷ 88 ∷ 1 ∷ 89 ∷ 68 * N ∷ 0 ∷ []

abbrev pub header_for : ℕ → Option (List ℕ)
header_for N = cond (entries_fit N) (Some (header_words N)) None

-- an empty log: 16 free rows, the tail at position 0, and entries with mark 0
abbrev pub empty_words : ℕ → List ℕ
empty_words N = header_words N ++ (replicate 80 0 ++ (0 ∷ replicate (68 * N) 0))

-- the position of the oldest entry
abbrev pub tail_of : List ℕ → ℕ
tail_of W = slice_index W 88

-- the first word of a row of names, and of the entry at a position
abbrev pub row_at : ℕ → ℕ
row_at r = 8 + 5 * r

abbrev pub row_for : ℕ → Option ℕ
row_for r = cond (nat_lt r 16) (Some (row_at r)) None

abbrev pub entry_at : ℕ → ℕ
entry_at p = 89 + 68 * p

-- the first word of the entry d places after position p, round a circle of N
abbrev pub entry_for : ℕ → ℕ → ℕ → Option ℕ
entry_for N p d = cond (entries_fit N && (nat_lt p N && nat_le d N)) (Some (entry_at ((p + d) % N))) None
