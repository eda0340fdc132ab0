-- What a shelf means: a store of files that may lose its power. It is lit or dark, has a limit for the size of a file, and knows files by
-- their paths, and open files by handles.
use Rattle.std.specs.Prelude.{◌≡◌, ℕ, ◌%◌, ◌<◌, ◌≤◌, Bool, true, false, ◌&&◌, List, [], length, is_some, Some, Option, ◌==◌, nat_le, slice_index_or}
use Rattle.device.specs.Contents.{byte}
use Rattle.device.specs.Paths.{Path, path_fits}

-- Its current content, which a read answers and whose length is the current size; the sure size, which a power failure leaves at least;
-- the loose positions, at which a power failure may leave another byte than the current one; and the found content, which the next
-- restart will find.
pub record File : Type 0 where
  pub bytes : List ℕ
  pub sure : ℕ
  pub loose : ℕ → Bool
  pub found : List ℕ

-- the path that each handle stands for, the file of each path, and how many files there are
pub record Files : Type 0 where
  pub lit : Bool
  pub limit : ℕ
  pub handle : ℕ → Option Path
  pub file : Path → Option File
  pub count : ℕ

-- the content c, all of it sure
abbrev pub firm : List ℕ → File
firm c = record { bytes = c; sure = length c; loose = λ i. false; found = c }

-- A choice that is left to the device: which content is found of a file. Its size lies from the sure to the current size, and at a
-- position that is not loose its byte is the current one. It may be another one after each call.
pub record FoundChoice (f : File) (c : List ℕ) : Type 0 where
  pub least : f.sure ≤ length c
  pub most : length c ≤ length f.bytes
  pub firmly : (i : ℕ) → f.loose i ≡ false → byte c i ≡ byte f.bytes i

-- a limit is a multiple of 512 from 512 to 2,097,152
abbrev pub limit_fits : ℕ → Bool
limit_fits l = nat_le 512 l && (nat_le l 2097152 && l % 512 == 0)

-- what holds of every file at any time
pub record SoundFile (limit : ℕ) (f : File) : Type 0 where
  pub within : length f.bytes ≤ limit
  pub sure : f.sure ≤ length f.bytes
  pub chosen : FoundChoice f f.found

-- the count is that of the paths that have a file: they can be listed, each once
pub record Counted (m : Files) : Type 0 where
  pub names : List Path
  pub many : length names ≡ m.count
  pub there : (i : ℕ) → i < m.count → is_some (m.file (slice_index_or names i [])) ≡ true
  pub listed : (p : Path) → is_some (m.file p) ≡ true → (i : ℕ) × (i < m.count) × (slice_index_or names i [] ≡ p)
  pub once : (i j : ℕ) → i < m.count → j < m.count → slice_index_or names i [] ≡ slice_index_or names j [] → i ≡ j

-- a handle is a number below 16 and stands for a path that has a file
pub record HandleOf (m : Files) (h : ℕ) (p : Path) : Type 0 where
  pub low : h < 16
  pub there : is_some (m.file p) ≡ true

-- what holds of every shelf at any time
pub record Sound (m : Files) : Type 0 where
  pub limit : limit_fits m.limit ≡ true
  pub few : m.count ≤ 16
  pub counted : Counted m
  pub paths : (p : Path) → is_some (m.file p) ≡ true → path_fits p ≡ true
  pub files : (p : Path) (f : File) → m.file p ≡ Some f → SoundFile m.limit f
  pub handles : (h : ℕ) (p : Path) → m.handle h ≡ Some p → HandleOf m h p
  -- no path has two handles
  pub one_handle : (h k : ℕ) (p : Path) → m.handle h ≡ Some p → m.handle k ≡ Some p → h ≡ k
