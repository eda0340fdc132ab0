-- What the checks of a record tell.
use Rattle.std.proofs.Common.{◌≡◌, ℕ, ◌+◌, ◌-◌, ◌*◌, ◌<◌, ◌≤◌, Bool, true, false, ◌&&◌, leb, ◌⊎◌, List, length, Some, Decides, sym, ap, ◌∙◌, ⊎_elim, arith}
use Rattle.std.proofs.lemmas.Slice.Eq.{bytes_eq-Decides}
use Rattle.std.proofs.lemmas.Bool.{lt-ltb, le-ltb, lt-leb, le-leb, eq-eqb, ne_eqb, and_left, and_right, and_from, cond-true, cond-false}
use Rattle.std.proofs.lemmas.Bool.Decides.{same_from_decides}
use Rattle.std.specs.Str.{bytes_eq}
use Rattle.device.proofs.Writing.{part_is}
use Rattle.device.specs.Contents.{byte}
use Rattle.device.specs.Files.{limit_fits}
use Rattle.device.specs.Paths.{Path, no_zero, path_fits}
use Rattle.flat.specs.Images.{bad, shape_fits, unfit_at}
use Rattle.flat.specs.RecordLaws.{fits_made}
use Rattle.flat.specs.Records.{all_zero, blank, path_length, path_of, size_of, taken, holds, record_fits}
use Rattle.flat.specs.Searches.{first}

pub blank_all : (xs : List ℕ) → blank xs 0 (length xs) ≡ all_zero xs
blank_all xs = ap all_zero (sym (part_is xs 0 (length xs - 0) xs (omega arith) (λ k l. ap (byte xs) (omega arith))))

pub long_path : (p : Path) → 32 < length p → path_fits p ≡ false
long_path p h = and_right (leb 1 (length p)) _ (and_left (leb (length p) 32) (no_zero p) (lt-leb (length p) 32 h))

-- a record's path, compared with one
pub holds_not : (p : Path) (rec : List ℕ) → path_length rec ≡ 0 → holds p rec ≡ false
holds_not p rec e = and_left (taken rec) _ (le-ltb 0 (path_length rec) (omega arith))

pub holds_by : (p : Path) (rec : List ℕ) (answer : Bool) → (path_length rec ≡ 0 → ⊥) → Decides answer (path_of rec ≡ p) → answer ≡ holds p rec
holds_by p rec answer ne d =
    same_from_decides answer (bytes_eq (path_of rec) p) d (bytes_eq-Decides (path_of rec) p)
    ∙ sym (ap (λ t. t && bytes_eq (path_of rec) p) (lt-ltb 0 (path_length rec) (omega arith)))

pub fits_free : (rec : List ℕ) → path_length rec ≡ 0 → record_fits rec ≡ blank rec 0 (length rec)
unfolding record_fits
fits_free rec e = cond-false (taken rec) _ _ (le-ltb 0 (path_length rec) (omega arith))

module _ (rec : List ℕ) (t : taken rec ≡ true) where
  pub unfit_path : path_fits (path_of rec) ≡ false → record_fits rec ≡ false
  unfit_path e = fits_made rec t ∙ and_left (path_fits (path_of rec)) _ e

  pub unfit_fill : blank rec (1 + path_length rec) 33 ≡ false → record_fits rec ≡ false
  unfit_fill e = fits_made rec t ∙ and_right (path_fits (path_of rec)) _ (and_left (blank rec (1 + path_length rec) 33) _ e)

  pub unfit_rest : (leb (64 + size_of rec) (length rec) && (blank rec 37 64 && blank rec (64 + size_of rec) (length rec))) ≡ false → record_fits rec ≡ false
  unfit_rest e = fits_made rec t ∙ and_right (path_fits (path_of rec)) _ (and_right (blank rec (1 + path_length rec) 33) _ e)

  -- where the path and its fill are right, the rest decides
  pub fits_rest : path_fits (path_of rec) ≡ true → blank rec (1 + path_length rec) 33 ≡ true → 64 + size_of rec ≤ length rec → record_fits rec ≡ (blank rec 37 64 && blank rec (64 + size_of rec) (length rec))
  fits_rest p f s =
      fits_made rec t
      ∙ ap (λ b. b && (blank rec (1 + path_length rec) 33 && (leb (64 + size_of rec) (length rec) && (blank rec 37 64 && blank rec (64 + size_of rec) (length rec))))) p
      ∙ ap (λ b. b && (leb (64 + size_of rec) (length rec) && (blank rec 37 64 && blank rec (64 + size_of rec) (length rec)))) f
      ∙ ap (λ b. b && (blank rec 37 64 && blank rec (64 + size_of rec) (length rec))) (le-leb (64 + size_of rec) (length rec) s)

-- the shape of an image

module _ (im : List ℕ) (L : ℕ) where
  pub unfit_shape : (limit_fits L ≡ false) ⊎ (length im ≡ 16 * (64 + L) → ⊥) → unfit_at im L ≡ Some 16
  unfolding unfit_at
  unfit_shape h = cond-false (shape_fits im L) _ _ (⊎_elim (and_left (limit_fits L) _) (λ ne. and_right (limit_fits L) _ (ne_eqb (length im) (16 * (64 + L)) ne)) h)

  pub unfit_first : limit_fits L ≡ true → length im ≡ 16 * (64 + L) → unfit_at im L ≡ first (bad im L) 16
  unfolding unfit_at
  unfit_first e long = cond-true (shape_fits im L) _ _ (and_from (limit_fits L) _ e (eq-eqb (length im) (16 * (64 + L)) long))
