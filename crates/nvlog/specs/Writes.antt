-- What a write does to a log that is kept in words.
use Rattle.std.specs.Prelude.{◌≡◌, ℕ, ◌+◌, ◌-◌, ◌%◌, cond, ◌⊎◌, List, length, take, drop, Some, None, Ok, Err, vec_items, Option, Result, Vec, nat_lt}
use Rattle.device.specs.Numbers.{Told, Says, refusal, told}
use Rattle.device.specs.Words.{Words, width, resting}
use Rattle.device.specs.declared.Fault.{Fault}
use Rattle.device.specs.declared.Failure.{Failure}
use Rattle.device.specs.declared.Failure.TheVariants.{Declined, NoMemory}
use Rattle.layout.specs.Entries.{Group}
use Rattle.layout.specs.Groups.{words_upto, laid}
use Rattle.layout.specs.Places.{width_of, width_for}
use Rattle.layout.specs.Writes.{write_for, split_of}
use Rattle.std.specs.declared.alloc.Global.{Global}
use Rattle.nvlog.specs.declared.word_log.Laid.{Laid as Place}
use Rattle.nvlog.specs.declared.word_log.Circle.{Circle}
use Rattle.nvlog.specs.States.{State, Fit, state_in, empty}
use Rattle.write_log.specs.Runs.{Dark}
use Rattle.nvlog.specs.Rows.{taken_row}

-- how many entries a write takes, or why it is declined, where `free` entries are free
abbrev pub within : ℕ → Result ℕ Told → Result ℕ Told
within free (Ok k) = cond (nat_lt free k) (Err (refusal 12 1 free)) (Ok k)
within free (Err t) = Err t

abbrev pub asked : State → ℕ → ℕ → ℕ → Result ℕ Told
asked s row offset n = cond (taken_row s.words row) (within (s.entries - 1 - s.taken) (write_for 2097152 offset n)) (Err (refusal 17 1 row))

-- the log after a group
abbrev pub after : State → Group → State
after s g =
    let k = length g.pieces in
    record {
      entries = s.entries;
      words = laid s.entries s.head g s.words k;
      head = (s.head + k) % s.entries;
      taken = s.taken + k;
      writes = s.writes + 1;
    }

-- the module rests with the words X, or power failed
abbrev pub Ends : List ℕ → Words → Result Unit Fault → Type 0
Ends X m (Ok u) = m ≡ resting X
Ends X m (Err e) = Dark m e

-- the entries of a group stand from position p on, round a circle of n
abbrev pub GroupPut : Words → ℕ → ℕ → ℕ → List ℕ → Words → Result Unit Fault → Type 0
GroupPut m n p k group m' r = (W : List ℕ) → m ≡ resting W → length W ≡ width_of n → (g : Group) → group ≡ words_upto g k → Ends (laid n p g W k) m' r

-- a group is laid out from the head on, or there is no memory for that
abbrev pub LaidOut : State → Group → Result Place Failure → State → Type 0
LaidOut s g (Ok p) s' = (p.position ≡ s.head) × (p.entries ≡ length g.pieces) × (s' ≡ after s g)
LaidOut s g (Err (Declined e)) s' = ⊥
LaidOut s g (Err NoMemory) s' = s' ≡ s

-- a write of a byte or more is laid out from the head on; any other leaves the log as it was
abbrev pub Written : State → ℕ → ℕ → List ℕ → Result (Option Place) Failure → State → Type 0
Written s row offset bs (Ok (Some p)) s' =
    (asked s row offset (length bs) ≡ Ok p.entries) × (p.position ≡ s.head) × (s' ≡ after s (record { row = row; pieces = split_of offset bs }))
Written s row offset bs (Ok None) s' = (asked s row offset (length bs) ≡ Ok 0) × (length bs ≡ 0) × (s' ≡ s)
Written s row offset bs (Err (Declined e)) s' = (asked s row offset (length bs) ≡ Err (told e)) × (s' ≡ s)
Written s row offset bs (Err NoMemory) s' = s' ≡ s

-- A log of n entries is made in the words of a battery, whatever they hold; or n is declined, or the width is not the one that n entries
-- need, and nothing changes.
abbrev pub Made : Words → ℕ → Words → Result Circle Fault → Type 0
Made m n m' (Ok c) = (width_for n ≡ Ok (width m)) × (state_in c m'.current ≡ empty n) × Fit (state_in c m'.current)
Made m n m' (Err e) = ((width_for n ≡ Err (told e)) ⊎ (((width_for n ≡ Ok (width m)) → ⊥) × Says e 14 1 (width m))) × (m' ≡ m)

-- a copy of n words from word `from` on, as far as there are words; nothing changes
abbrev pub Copied : State → ℕ → ℕ → Result (Vec ℕ Global) Failure → State → Type 0
Copied s from n (Ok v) s' = (vec_items v ≡ take n (drop from s.words)) × (s' ≡ s)
Copied s from n (Err (Declined e)) s' = ⊥
Copied s from n (Err NoMemory) s' = s' ≡ s
