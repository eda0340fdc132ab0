-- What an image means as a shelf: all that it holds is sure, and it is never dark. Which records have been opened is told by 16 flags; the
-- handle of a file is the number of its record.
use Rattle.std.specs.Prelude.{◌≡◌, ℕ, Bool, true, false, cond, List, length, replicate, Some, None, slice_index_or}
use Rattle.std.specs.Option.{option_map}
use Rattle.device.specs.Files.{Files, firm}
use Rattle.flat.specs.Images.{record_at, slot}
use Rattle.flat.specs.Records.{path_of, content_of, taken}
use Rattle.flat.specs.Searches.{how_many}

abbrev pub flat : List ℕ → ℕ → List Bool → Files
flat im L opened = record {
  lit = true;
  limit = L;
  handle = λ h. cond (slice_index_or opened h false) (Some (path_of (record_at im L h))) None;
  file = λ p. option_map (λ r. firm (content_of (record_at im L r))) (slot im L p 16);
  count = how_many (λ r. taken (record_at im L r)) 16;
}

-- no record is opened
abbrev pub none_open : List Bool
none_open = replicate 16 false

-- there are 16 flags, and a record that is opened has a path
abbrev pub Live : List Bool → List ℕ → ℕ → Type 0
Live opened im L = (length opened ≡ 16) × ((h : ℕ) → slice_index_or opened h false ≡ true → taken (record_at im L h) ≡ true)

-- a shelf with no file
abbrev pub no_files : ℕ → Files
no_files L = record { lit = true; limit = L; handle = λ h. None; file = λ p. None; count = 0 }
