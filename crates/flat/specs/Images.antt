-- The image of a flat shelf with the limit L: 16 records of 64 + L bytes, one after the other.
use Rattle.std.specs.Prelude.{◌≡◌, ℕ, ◌+◌, ◌*◌, ◌≤◌, Bool, cond, not, ◌&&◌, ◌||◌, List, length, is_some, Some, None, Ok, Err, Option, Result, ◌==◌}
use Rattle.std.proofs.Math.Seq.{paste}
use Rattle.device.specs.Contents.{part}
use Rattle.device.specs.Files.{limit_fits}
use Rattle.device.specs.Paths.{Path}
use Rattle.device.specs.declared.Fault.{Fault}
use Rattle.flat.specs.Records.{path_of, taken, holds, record_fits, labelled, stored}
use Rattle.flat.specs.Searches.{first}

abbrev pub start : ℕ → ℕ → ℕ
start L r = r * (64 + L)

unfoldable pub record_at : List ℕ → ℕ → ℕ → List ℕ
record_at im L r = part im (start L r) (64 + L)

-- the record of a path, among the first n
abbrev pub slot : List ℕ → ℕ → Path → ℕ → Option ℕ
slot im L p n = first (λ r. holds p (record_at im L r)) n

-- the lowest free record
abbrev pub vacancy : List ℕ → ℕ → Option ℕ
vacancy im L = first (λ r. not (taken (record_at im L r))) 16

-- a record is bad if it is not made as it should be, or if a lower one has its path
abbrev pub bad : List ℕ → ℕ → ℕ → Bool
bad im L r = not (record_fits (record_at im L r)) || is_some (slot im L (path_of (record_at im L r)) r)

abbrev pub shape_fits : List ℕ → ℕ → Bool
shape_fits im L = limit_fits L && length im == 16 * (64 + L)

-- the same as facts, for those who work on an image
pub record Shape (im : List ℕ) (L : ℕ) : Type 0 where
  pub least : 512 ≤ L
  pub most : L ≤ 2097152
  pub long : length im ≡ 16 * (64 + L)

-- where an image is unfit: 16 for a wrong limit or length, else the first bad record; nowhere, if it is fit
unfoldable pub unfit_at : List ℕ → ℕ → Option ℕ
unfit_at im L = cond (shape_fits im L) (first (bad im L) 16) (Some 16)

-- the image with another record r
unfoldable pub replaced : List ℕ → ℕ → ℕ → List ℕ → List ℕ
replaced im L r rec = paste im (start L r) rec (64 + L)

-- The image after a path is opened. A new path gets the lowest free record.
abbrev pub labelled_at : List ℕ → ℕ → Path → Option ℕ → List ℕ
labelled_at im L p None = im
labelled_at im L p (Some r) = replaced im L r (labelled (record_at im L r) p)

abbrev pub image_opened : List ℕ → ℕ → Path → List ℕ
image_opened im L p = cond (is_some (slot im L p 16)) im (labelled_at im L p (vacancy im L))

-- the image after a write of ds to the file of record r; no data changes nothing
abbrev pub image_written : List ℕ → ℕ → ℕ → ℕ → List ℕ → List ℕ
image_written im L r at ds = cond (length ds == 0) im (replaced im L r (stored (record_at im L r) at ds))

-- What a call leaves in the image, new, by its answer. The handle that open answers is the number of the path's record.
abbrev pub ImageOpened : List ℕ → ℕ → Path → List ℕ → Result ℕ Fault → Type 0
ImageOpened im L p new (Ok h) = (new ≡ image_opened im L p) × (slot new L p 16 ≡ Some h)
ImageOpened im L p new (Err e) = new ≡ im

abbrev pub ImageWritten : List ℕ → ℕ → ℕ → ℕ → List ℕ → List ℕ → Result Unit Fault → Type 0
ImageWritten im L h at ds new (Ok u) = new ≡ image_written im L h at ds
ImageWritten im L h at ds new (Err e) = new ≡ im
