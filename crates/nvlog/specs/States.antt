-- A log that is kept in words.
use Rattle.std.specs.Prelude.{◌≡◌, ℕ, List, length}
use Rattle.memory.specs.Meanings.{battery_of}
use Rattle.layout.specs.Places.{width_of, empty_words}
use Rattle.nvlog.specs.declared.word_log.Circle.{Circle}
use Rattle.nvlog.specs.declared.word_log.WordLog.{WordLog}

-- a log: its number of entries, its words, its head, and how many entries and writes wait
pub record State : Type 0 where
  pub entries : ℕ
  pub words : List ℕ
  pub head : ℕ
  pub taken : ℕ
  pub writes : ℕ

-- a circle of entries in the words W
abbrev pub state_in : Circle → List ℕ → State
state_in c W = record { entries = c.entries.n; words = W; head = c.head; taken = c.taken; writes = c.writes }

abbrev pub state_of : WordLog → State
state_of l = state_in l.circle (battery_of l.memory).current

-- the log has as many words as its entries need; every log that is made does, and no call changes it
abbrev pub Fit : State → Type 0
Fit s = length s.words ≡ width_of s.entries

-- an empty log
abbrev pub empty : ℕ → State
empty N = record { entries = N; words = empty_words N; head = 0; taken = 0; writes = 0 }

-- the log with other words
abbrev pub reworded : State → List ℕ → State
reworded s W = record { entries = s.entries; words = W; head = s.head; taken = s.taken; writes = s.writes }
