-- A record of a flat shelf's image, which holds one file. It is 64 bytes and then room for the content, as much as the limit:
--
--   byte 0           the length of the path, 0 for a free record, which is all zeros
--   bytes 1 to 32    the path, and zeros after it
--   bytes 33 to 36   the size, low byte first
--   bytes 37 to 63   zeros
--   bytes 64 on      the content, and zeros after it
use Rattle.std.specs.Prelude.{ℕ, ◌+◌, ◌-◌, ◌*◌, ◌/◌, ◌%◌, max, Bool, cond, ◌&&◌, List, [], ◌∷◌, length, ◌==◌, nat_le, nat_lt, slice_set}
use Rattle.std.proofs.Math.Seq.{paste}
use Rattle.std.specs.List.{list_all}
use Rattle.std.specs.Str.{bytes_eq}
use Rattle.device.specs.Contents.{byte, part}
use Rattle.device.specs.Paths.{Path, path_fits}

abbrev pub all_zero : List ℕ → Bool
all_zero bs = list_all (λ b. b == 0) bs

-- the bytes from a position to below an end are zeros
abbrev pub blank : List ℕ → ℕ → ℕ → Bool
blank rec at end = all_zero (part rec at (end - at))

abbrev pub path_length : List ℕ → ℕ
path_length rec = byte rec 0

abbrev pub path_of : List ℕ → Path
path_of rec = part rec 1 (path_length rec)

-- four bytes as a number, low byte first
abbrev pub number : List ℕ → ℕ → ℕ
number rec at = byte rec at + byte rec (at + 1) * 256 + byte rec (at + 2) * 65536 + byte rec (at + 3) * 16777216

abbrev pub size_of : List ℕ → ℕ
size_of rec = number rec 33

abbrev pub content_of : List ℕ → List ℕ
content_of rec = part rec 64 (size_of rec)

abbrev pub taken : List ℕ → Bool
taken rec = nat_lt 0 (path_length rec)

-- the record is that of a path
abbrev pub holds : Path → List ℕ → Bool
holds p rec = taken rec && bytes_eq (path_of rec) p

-- a record with a path is made as it should be
abbrev pub well_made : List ℕ → Bool
well_made rec =
    path_fits (path_of rec)
    && (blank rec (1 + path_length rec) 33
    && (nat_le (64 + size_of rec) (length rec)
    && (blank rec 37 64
    && blank rec (64 + size_of rec) (length rec))))

unfoldable pub record_fits : List ℕ → Bool
record_fits rec = cond (taken rec) (well_made rec) (blank rec 0 (length rec))

-- a number as four bytes, low byte first
abbrev pub number_bytes : ℕ → List ℕ
number_bytes n = (n % 256) ∷ (n / 256 % 256) ∷ (n / 65536 % 256) ∷ (n / 16777216 % 256) ∷ []

-- a free record that is given a path
unfoldable pub labelled : List ℕ → Path → List ℕ
labelled rec p = paste (slice_set rec 0 (length p)) 1 p (length p)

-- a record after a write of a byte or more to its file: the data is laid into the content, and the size is raised to its end
unfoldable pub stored : List ℕ → ℕ → List ℕ → List ℕ
stored rec at ds = paste (paste rec (64 + at) ds (length ds)) 33 (number_bytes (max (size_of rec) (at + length ds))) 4
