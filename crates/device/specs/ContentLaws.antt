-- What a write makes of a content, as laws that hold of every content, position and data.
use Rattle.std.specs.Prelude.{◌≡◌, ℕ, ◌+◌, ◌<◌, ◌≤◌, max, ◌⊎◌, List, length}
use Rattle.device.specs.Contents.{byte, part, written}

pub record WriteLaws (xs : List ℕ) (at : ℕ) (ds : List ℕ) : Type 0 where
  -- no bytes change nothing
  pub nothing : length ds ≡ 0 → written xs at ds ≡ xs
  -- the size is raised to the end of the data if that is larger
  pub size : 0 < length ds → length (written xs at ds) ≡ max (length xs) (at + length ds)
  -- the data is there
  pub there : (k : ℕ) → k < length ds → byte (written xs at ds) (at + k) ≡ byte ds k
  pub read_back : part (written xs at ds) at (length ds) ≡ ds
  -- no other byte changes
  pub others : (i : ℕ) → (i < at) ⊎ (at + length ds ≤ i) → byte (written xs at ds) i ≡ byte xs i
  -- a gap reads as zeros
  pub gap : (i : ℕ) → length xs ≤ i → i < at → byte (written xs at ds) i ≡ 0

abbrev pub WritesKeepTheseLaws : Type 0
WritesKeepTheseLaws = (xs : List ℕ) (at : ℕ) (ds : List ℕ) → WriteLaws xs at ds
