-- What the tests of a record, a path and a limit tell.
use Rattle.std.specs.Prelude.{◌≡◌, ℕ, ◌+◌, ◌*◌, ◌≤◌, true, List, length, nat_le}
use Rattle.std.proofs.Common.{sym, ◌∙◌, arith}
use Rattle.std.proofs.lemmas.Slice.Eq.{bytes_eq-Decides}
use Rattle.std.proofs.lemmas.Bool.{leb-true, and_parts}
use Rattle.std.proofs.lemmas.Grind.{common_steps}
use Rattle.device.proofs.Writing.{length_part}
use Rattle.device.specs.Files.{limit_fits}
use Rattle.device.specs.Paths.{Path, path_fits}
use Rattle.flat.specs.Images.{Shape, start, record_at}
use Rattle.flat.specs.Records.{blank, path_length, path_of, size_of, taken, holds, well_made, record_fits}

pub limit_parts : (L : ℕ) → limit_fits L ≡ true → (512 ≤ L) × (L ≤ 2097152)
limit_parts L e = (grind (arith, common_steps), grind (arith, common_steps))

pub shape_from : (im : List ℕ) (L : ℕ) → limit_fits L ≡ true → length im ≡ 16 * (64 + L) → Shape im L
shape_from im L e long = let a = limit_parts L e in record { least = a.0; most = a.1; long = long }

pub path_parts : (p : Path) → path_fits p ≡ true → (1 ≤ length p) × (length p ≤ 32)
path_parts p e = (grind (arith, common_steps), grind (arith, common_steps))

pub length-record_at : (im : List ℕ) (L r : ℕ) → length (record_at im L r) ≡ 64 + L
unfolding record_at
length-record_at im L r = length_part im (start L r) (64 + L)

pub holds_parts : (p : Path) (rec : List ℕ) → holds p rec ≡ true → (taken rec ≡ true) × (path_of rec ≡ p)
holds_parts p rec e = (grind (arith, common_steps), grind (arith, common_steps, bytes_eq-Decides (path_of rec) p))

pub holds_own : (p : Path) (rec : List ℕ) → taken rec ≡ true → path_of rec ≡ p → holds p rec ≡ true
holds_own p rec t e = grind (arith, common_steps, bytes_eq-Decides (path_of rec) p)

pub fits_made : (rec : List ℕ) → taken rec ≡ true → record_fits rec ≡ well_made rec
unfolding record_fits
fits_made rec t = grind (arith, common_steps)

-- what is known of a record with a path
pub record WellMade (rec : List ℕ) : Type 0 where
  pub path : path_fits (path_of rec) ≡ true
  pub few : path_length rec ≤ 32
  pub fill : blank rec (1 + path_length rec) 33 ≡ true
  pub size : 64 + size_of rec ≤ length rec
  pub pad : blank rec 37 64 ≡ true
  pub past : blank rec (64 + size_of rec) (length rec) ≡ true

pub well_made_parts : (rec : List ℕ) → taken rec ≡ true → record_fits rec ≡ true → WellMade rec
well_made_parts rec t e =
    let a = and_parts (path_fits (path_of rec)) _ (sym (fits_made rec t) ∙ e) in
    let b = and_parts (blank rec (1 + path_length rec) 33) _ a.1 in
    let c = and_parts (nat_le (64 + size_of rec) (length rec)) _ b.1 in
    let d = and_parts (blank rec 37 64) _ c.1 in
    record { path = a.0; few = omega (arith, (path_parts (path_of rec) a.0).1, length_part rec 1 (path_length rec)); fill = b.0; size = leb-true (64 + size_of rec) (length rec) c.0; pad = d.0; past = d.1 }
