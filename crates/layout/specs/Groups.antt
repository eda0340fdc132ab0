-- The words of a whole group, and the group that words hold.
use Rattle.std.specs.Prelude.{ℕ, zero, suc, ◌+◌, ◌*◌, ◌%◌, Bool, true, cond, ◌&&◌, List, [], ◌∷◌, length, take, drop, Some, None, Option, ◌==◌, nat_le}
use Rattle.std.proofs.Math.Seq.{paste}
use Rattle.std.specs.List.{range_with_len, flat_map}
use Rattle.std.specs.Option.{option_map}
use Rattle.layout.specs.Entries.{Piece, Group, Entry, entry_fits, entry_words, entry_of, read_entry}
use Rattle.layout.specs.Marks.{mark_of}
use Rattle.layout.specs.Places.{entry_at}

-- the words of the first n entries of a group, one entry after the other
unfoldable pub words_upto : Group → ℕ → List ℕ
words_upto g n = flat_map (λ d. entry_words (entry_of g d)) (range_with_len 0 n)

-- the first n entries of a group are fit
abbrev pub fit_upto : Group → ℕ → Bool
fit_upto g zero = true
fit_upto g (suc n) = entry_fits (entry_of g n) && fit_upto g n

-- a group has 1 to 8 entries, each of them fit
abbrev pub group_fits : Group → Bool
group_fits g = nat_le 1 (length g.pieces) && (nat_le (length g.pieces) 8 && fit_upto g (length g.pieces))

abbrev pub group_words : Group → Option (List ℕ)
group_words g = cond (group_fits g) (Some (words_upto g (length g.pieces))) None

-- one more piece, where the entry d places after the first one of a group of k for the same row was read
abbrev pub one_more : ℕ → ℕ → ℕ → Option Entry → Option (List Piece) → Option (List Piece)
one_more k row d None ps = None
one_more k row d (Some e) ps = cond (e.mark == mark_of k d && e.row == row) (option_map (λ l. record { offset = e.offset; bytes = e.bytes } ∷ l) ps) None

-- the pieces in n entries from the one d places after the first on; `at d` are the words of that entry
abbrev pub pieces_from : (ℕ → List ℕ) → ℕ → ℕ → ℕ → ℕ → Option (List Piece)
pieces_from at k row d zero = Some []
pieces_from at k row d (suc n) = one_more k row d (read_entry (at d)) (pieces_from at k row (d + 1) n)

-- the first entry's mark says how many entries there are
abbrev pub group_after : (ℕ → List ℕ) → Option Entry → Option Group
group_after at None = None
group_after at (Some e) = cond (nat_le e.mark 8) (option_map (λ ps. record { row = e.row; pieces = ps }) (pieces_from at e.mark e.row 0 e.mark)) None

abbrev pub read_group : (ℕ → List ℕ) → Option Group
read_group at = group_after at (read_entry (at 0))

-- the words of entry d, where entries stand one after the other
abbrev pub in_a_row : List ℕ → ℕ → List ℕ
in_a_row ws d = take 68 (drop (68 * d) ws)

-- the words W with the first n entries of a group laid out from position p on, round a circle of N
abbrev pub laid : ℕ → ℕ → Group → List ℕ → ℕ → List ℕ
laid N p g W zero = W
laid N p g W (suc d) = paste (laid N p g W d) (entry_at ((p + d) % N)) (entry_words (entry_of g d)) 68
