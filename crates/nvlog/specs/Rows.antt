-- Which row of names a path gets.
use Rattle.std.specs.Prelude.{◌≡◌, ℕ, ◌<◌, Bool, true, false, not, ◌&&◌, ◌⊎◌, List, take, drop, Some, None, Ok, Err, Option, Result, ◌==◌, nat_lt, slice_index}
use Rattle.std.proofs.Math.Seq.{paste}
use Rattle.device.specs.Numbers.{Says}
use Rattle.device.specs.Words.{Words}
use Rattle.device.specs.declared.Fault.{Fault}
use Rattle.layout.specs.Places.{row_at}
use Rattle.device.specs.Paths.{path_fits}
use Rattle.layout.specs.Rows.{row_words}
use Rattle.nvlog.specs.States.{State, reworded}

-- row r has a name
abbrev pub taken_row : List ℕ → ℕ → Bool
taken_row W r = nat_lt r 16 && not (slice_index W (row_at r) == 0)

-- row r holds these words
abbrev pub RowIs : List ℕ → List ℕ → ℕ → Type 0
RowIs W ws r = take 5 (drop (row_at r) W) ≡ ws

-- the lowest row of which P holds, or none
abbrev pub FirstRow : (ℕ → Type 0) → Option ℕ → Type 0
FirstRow P (Some r) = (r < 16) × P r × ((q : ℕ) → q < r → P q → ⊥)
FirstRow P None = (q : ℕ) → q < 16 → P q → ⊥

-- the lowest row that holds a path
abbrev pub OwnRow : List ℕ → List ℕ → Option ℕ → Type 0
OwnRow W path = FirstRow (RowIs W (row_words path))

-- the lowest row with no name
abbrev pub FreeRow : List ℕ → Option ℕ → Type 0
FreeRow W = FirstRow (λ q. taken_row W q ≡ false)

-- a path's own row, or the lowest free one, which then holds the path; nothing else changes
abbrev pub Named : State → List ℕ → Result ℕ Fault → State → Type 0
Named s path (Ok r) s' =
    (path_fits path ≡ true)
    × ((OwnRow s.words path (Some r) × (s' ≡ s))
    ⊎ (OwnRow s.words path None × FreeRow s.words (Some r) × (s' ≡ reworded s (paste s.words (row_at r) (row_words path) 5))))
Named s path (Err e) s' =
    (s' ≡ s)
    × (((path_fits path ≡ false) × Says e 4 0 0)
    ⊎ ((path_fits path ≡ true) × OwnRow s.words path None × FreeRow s.words None × Says e 7 3 16))

-- the header and the rows of names are read, and nothing changes
abbrev pub NamesRead : Words → Result (List ℕ) Fault → Words → Type 0
NamesRead m (Ok ws) m' = (ws ≡ take 88 m.current) × (m' ≡ m)
NamesRead m (Err e) m' = ⊥
