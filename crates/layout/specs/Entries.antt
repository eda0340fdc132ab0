-- Entries of the log, and groups of them.
use Rattle.std.specs.Prelude.{◌≡◌, ℕ, ◌+◌, ◌-◌, Bool, cond, ◌&&◌, List, [], ◌∷◌, ◌++◌, map, length, drop, replicate, Some, None, Ok, Err, Option, Result, nat_le, nat_lt, slice_index, slice_index_or}
use Rattle.std.specs.Str.{bytes_eq}
use Rattle.device.specs.declared.Fault.{Fault}
use Rattle.device.specs.Numbers.{Says}
use Rattle.layout.specs.declared.entries.Piece.{Piece as Given}
use Rattle.layout.specs.declared.entries.Entry.{Entry as Held}
use Rattle.layout.specs.declared.marks.Mark.{Mark}
use Rattle.layout.specs.Marks.{mark_of, is_mark, mark_word, Marked}
use Rattle.layout.specs.Packing.{packed, unpacked}

-- a run of bytes and where it goes in its file
pub record Piece : Type 0 where
  pub offset : ℕ
  pub bytes : List ℕ

-- what one write puts into the log: pieces for the file of one row of names, one piece to an entry
pub record Group : Type 0 where
  pub row : ℕ
  pub pieces : List Piece

pub record Entry : Type 0 where
  pub mark : ℕ
  pub row : ℕ
  pub offset : ℕ
  pub bytes : List ℕ

-- 1 to 512 bytes that end within the largest file
abbrev pub piece_fits : ℕ → ℕ → Bool
piece_fits offset n = nat_le 1 n && (nat_le n 512 && nat_le (offset + n) 2097152)

abbrev pub entry_fits : Entry → Bool
entry_fits e = is_mark e.mark && (nat_lt e.row 16 && piece_fits e.offset (length e.bytes))

-- the 68 words of an entry
unfoldable pub entry_words : Entry → List ℕ
entry_words e = e.mark ∷ e.row ∷ e.offset ∷ length e.bytes ∷ packed 64 e.bytes

-- what words say, be they fit or not
abbrev pub said : List ℕ → Entry
said ws = record { mark = slice_index ws 0; row = slice_index ws 1; offset = slice_index ws 2; bytes = unpacked (slice_index ws 3) (drop 4 ws) }

-- words are an entry's where they are the words of what they say
unfoldable pub read_entry : List ℕ → Option Entry
read_entry ws = cond (entry_fits (said ws) && bytes_eq ws (entry_words (said ws))) (Some (said ws)) None

abbrev pub no_piece : Piece
no_piece = record { offset = 0; bytes = [] }

-- the entry d places after the first one of a group
abbrev pub entry_of : Group → ℕ → Entry
entry_of g d =
    let p = slice_index_or g.pieces d no_piece in
    record { mark = mark_of (length g.pieces) d; row = g.row; offset = p.offset; bytes = p.bytes }

-- its words, where the group has at most 8 entries and this one of them is fit
abbrev pub entry_words_of : Group → ℕ → Option (List ℕ)
entry_words_of g d = cond (nat_le (length g.pieces) 8 && (nat_lt d (length g.pieces) && entry_fits (entry_of g d))) (Some (entry_words (entry_of g d))) None

-- the group that the code is given
abbrev pub plain : Given → Piece
plain p = record { offset = p.offset; bytes = p.bytes.now }

abbrev pub group_of : ℕ → List Given → Group
group_of r ps = record { row = r; pieces = map plain ps }

-- one piece as the code is given it, as an entry with a mark
abbrev pub piece_entry : ℕ → Mark → Given → Entry
piece_entry row mark p = record { mark = mark_word mark; row = row; offset = p.offset; bytes = p.bytes.now }

-- an entry's words, where it is fit
abbrev pub words_if_fit : Entry → Option (List ℕ)
words_if_fit e = cond (entry_fits e) (Some (entry_words e)) None

-- the entry that the code holds: its bytes stand at the front, with zeros after them
pub record Holds (x : Held) (e : Entry) : Type 0 where
  pub mark : Marked x.mark e.mark
  pub row : x.row ≡ e.row
  pub offset : x.offset ≡ e.offset
  pub count : x.bytes.count ≡ length e.bytes
  pub front : x.bytes.bytes ≡ e.bytes ++ replicate (512 - length e.bytes) 0

-- the code read an entry as the definition does, or declines it
abbrev pub EntryRead : List ℕ → ℕ → Result Held Fault → Type 0
EntryRead ws p (Ok x) = (e : Entry) × (read_entry ws ≡ Some e) × Holds x e
EntryRead ws p (Err f) = (read_entry ws ≡ None) × Says f 18 1 p
