-- Worked examples of the format, as a table.
use Rattle.std.specs.Prelude.{◌≡◌, ℕ, List, [], ◌∷◌, replicate, Ok, Err, Result, slice_index}
use Rattle.device.specs.Numbers.{Told, refusal}
use Rattle.layout.specs.Packing.{packed_word}
use Rattle.layout.specs.Places.{width_for}
use Rattle.layout.specs.Entries.{Group}
use Rattle.layout.specs.Groups.{laid}
use Rattle.layout.specs.Writes.{write_for, split_of}

-- what the definitions answer, and what they should
pub record Line : Type 0 where
  pub got : Result ℕ Told
  pub want : Result ℕ Told

-- 600 bytes for row 2 at offset 1,000
unfoldable pub two_entries : Group
two_entries = record { row = 2; pieces = split_of 1000 (replicate 600 65) }

-- word i of a log of 9 entries with that group laid out from position 7 on
unfoldable pub word_in_log : ℕ → Result ℕ Told
word_in_log i = Ok (slice_index (laid 9 7 two_entries (replicate 701 0) 2) i)

unfoldable pub examples : List Line
examples =
    record { got = width_for 9; want = Ok 701 }
    ∷ record { got = width_for 1024; want = Ok 69721 }
    ∷ record { got = width_for 8; want = Err (refusal 14 1 633) }
    ∷ record { got = write_for 2097152 0 512; want = Ok 1 }
    ∷ record { got = write_for 2097152 0 513; want = Ok 2 }
    ∷ record { got = write_for 2097152 0 4096; want = Ok 8 }
    ∷ record { got = write_for 2097152 0 4097; want = Err (refusal 10 0 4097) }
    ∷ record { got = Ok (packed_word (0x41 ∷ 0x42 ∷ []) 0); want = Ok 16961 }
    ∷ record { got = word_in_log 565; want = Ok 2 }
    ∷ record { got = word_in_log 633; want = Ok 17 }
    ∷ record { got = word_in_log 635; want = Ok 1512 }
    ∷ record { got = word_in_log 636; want = Ok 88 }
    ∷ []

-- every line of a table holds
abbrev pub Holds : List Line → Type 0
Holds [] = Unit {0}
Holds (l ∷ ls) = (l.got ≡ l.want) × Holds ls
