-- What is made of an image, of nothing, and of a record.
use Rattle.std.specs.Prelude.{◌≡◌, ℕ, ◌+◌, ◌*◌, ◌<◌, ◌≤◌, true, false, ◌⊎◌, List, length, replicate, Some, None, Ok, Err, vec_items, Option, Result}
use Rattle.std.specs.Option.{option_map}
use Rattle.device.specs.Files.{limit_fits}
use Rattle.device.specs.Numbers.{Says}
use Rattle.device.specs.declared.Failure.{Failure}
use Rattle.device.specs.declared.Failure.TheVariants.{Declined, NoMemory}
use Rattle.flat.specs.Images.{record_at, unfit_at}
use Rattle.flat.specs.Meanings.{flat_of, image_of}
use Rattle.flat.specs.Records.{path_of, size_of, taken}
use Rattle.flat.specs.Shelves.{flat, none_open, no_files}
use Rattle.flat.specs.declared.shelf.Listed.{Listed}
use Rattle.flat.specs.declared.shelf.Flat.{Flat}
use Rattle.flat.specs.declared.shelf.Unfit.{Unfit}

-- the shelf holds the bytes im with the limit L, and nothing is opened
pub record Holding (im : List ℕ) (L : ℕ) (f : Flat) : Type 0 where
  pub bytes : image_of f ≡ im
  pub limit : f.image.limit ≡ L
  pub means : flat_of f ≡ flat im L none_open

-- an unfit image is declined by 19 at the place where it is unfit, and handed back
pub record HandedBack (im : List ℕ) (L : ℕ) (u : Unfit) : Type 0 where
  pub place : unfit_at im L ≡ Some u.fault.place
  pub says : Says u.fault 19 3 u.fault.place
  pub bytes : vec_items u.image ≡ im

abbrev pub MadeOver : List ℕ → ℕ → Result Flat Unfit → Type 0
MadeOver im L (Ok f) = (unfit_at im L ≡ None) × Holding im L f
MadeOver im L (Err u) = HandedBack im L u

-- a shelf with no file, in an image of zeros
pub record Emptied (L : ℕ) (f : Flat) : Type 0 where
  pub limit : limit_fits L ≡ true
  pub holding : Holding (replicate (16 * (64 + L)) 0) L f
  pub means : flat_of f ≡ no_files L

abbrev pub MadeEmpty : ℕ → Result Flat Failure → Type 0
MadeEmpty L (Ok f) = Emptied L f
MadeEmpty L (Err (Declined e)) = (limit_fits L ≡ false) × Says e 19 3 16
MadeEmpty L (Err NoMemory) = limit_fits L ≡ true

-- the path and the size in record r, which are those of one of the shelf's files
pub record ListedFile (f : Flat) (r : ℕ) (x : Listed) : Type 0 where
  pub low : r < 16
  pub used : taken (record_at (image_of f) f.image.limit r) ≡ true
  pub path : x.path.now ≡ path_of (record_at (image_of f) f.image.limit r)
  pub size : x.size ≡ size_of (record_at (image_of f) f.image.limit r)
  pub file : option_map (λ g. length g.bytes) ((flat_of f).file x.path.now) ≡ Some x.size

abbrev pub ListedAt : Flat → ℕ → Option Listed → Type 0
ListedAt f r None = (16 ≤ r) ⊎ (taken (record_at (image_of f) f.image.limit r) ≡ false)
ListedAt f r (Some x) = ListedFile f r x
