-- An image in which one record is replaced: it stays fit, and the files of other records stay.
use Rattle.std.proofs.Common.{◌≡◌, ℕ, ◌+◌, ◌<◌, true, false, List, length, is_some, Some, None, Option, sym, refl, ap, ◌∙◌, subst, arith}
use Rattle.std.proofs.lemmas.Bool.{both_ways}
use Rattle.std.proofs.lemmas.Grind.{common_steps}
use Rattle.std.specs.Option.{option_map}
use Rattle.device.proofs.Writing.{length_part}
use Rattle.device.specs.Files.{File, firm}
use Rattle.device.specs.Paths.{Path}
use Rattle.flat.proofs.Edits.{length-replaced, replaced_there, replaced_elsewhere}
use Rattle.flat.specs.Images.{Shape, record_at, slot, bad, unfit_at, replaced}
use Rattle.flat.specs.RecordLaws.{holds_own, holds_parts}
use Rattle.flat.specs.Records.{path_length, path_of, content_of, taken, holds, record_fits}
use Rattle.flat.specs.SearchLaws.{first_none, first_same, found_by_first}
use Rattle.flat.specs.Soundness.{FitImage, fit_image, slot_is}

-- a record with the path of one that is taken is taken
taken_by : (rec other : List ℕ) → taken rec ≡ true → path_of rec ≡ path_of other → taken other ≡ true
taken_by rec other t e = grind (arith, common_steps, length_part rec 1 (path_length rec), length_part other 1 (path_length other))

-- an image of which all this is known is fit
pub fit_from : (im : List ℕ) (L : ℕ) → FitImage im L → is_some (unfit_at im L) ≡ false
unfolding unfit_at
fit_from im L fit =
    grind (
      arith,
      common_steps,
      fit.limit,
      fit.shape.long,
      first_none (bad im L) 16 (λ r l. grind (
        arith,
        common_steps,
        fit.fits r l,
        first_none (λ q. holds (path_of (record_at im L r)) (record_at im L q)) r (λ q h.
            grind (arith, common_steps, holds_parts (path_of (record_at im L r)) (record_at im L q), taken_by (record_at im L q) (record_at im L r), fit.alone r q l h)),
      )),
    )

pub not_holds : (p : Path) (rec : List ℕ) → (taken rec ≡ true → path_of rec ≡ p → ⊥) → holds p rec ≡ false
not_holds p rec h = grind (arith, common_steps, holds_parts p rec)

-- the file that a record holds
abbrev pub file_in : List ℕ → ℕ → ℕ → File
file_in im L r = firm (content_of (record_at im L r))

-- a fit record of an image with the limit L, which holds a file with the path p and the content c
pub record Filed (L : ℕ) (rec : List ℕ) (p : Path) (c : List ℕ) : Type 0 where
  pub long : length rec ≡ 64 + L
  pub used : taken rec ≡ true
  pub path : path_of rec ≡ p
  pub content : content_of rec ≡ c
  pub fits : record_fits rec ≡ true

-- no record but r has the path p
abbrev pub Lone : List ℕ → ℕ → ℕ → Path → Type 0
Lone im L r p = (s : ℕ) → s < 16 → (s ≡ r → ⊥) → holds p (record_at im L s) ≡ false

module _ (im : List ℕ) (L : ℕ) (fit : FitImage im L) (r : ℕ) (low : r < 16) (rec : List ℕ) (p : Path) (c : List ℕ) (filed : Filed L rec p c) (lone : Lone im L r p) where
  pub here : record_at (replaced im L r rec) L r ≡ rec
  here = replaced_there im L fit.shape r low rec filed.long

  pub elsewhere : (q : ℕ) → (q ≡ r → ⊥) → record_at (replaced im L r rec) L q ≡ record_at im L q
  elsewhere = replaced_elsewhere im L fit.shape r low rec filed.long

  pub used_here : taken (record_at (replaced im L r rec) L r) ≡ true
  used_here = ap taken here ∙ filed.used

  pub path_here : path_of (record_at (replaced im L r rec) L r) ≡ p
  path_here = ap path_of here ∙ filed.path

  pub fit_replaced : FitImage (replaced im L r rec) L
  fit_replaced = record {
    limit = fit.limit;
    shape = record { least = fit.shape.least; most = fit.shape.most; long = length-replaced im L fit.shape r low rec filed.long ∙ fit.shape.long };
    fits = λ q l. grind (arith, fit.fits q l, filed.fits, here, elsewhere q);
    alone = λ a b l h t u same. grind (arith, path_here, elsewhere a, elsewhere b, lone a, lone b, holds_own p (record_at im L a), holds_own p (record_at im L b), fit.alone a b);
  }

  pub slot_here : slot (replaced im L r rec) L p 16 ≡ Some r
  slot_here = slot_is (replaced im L r rec) L fit_replaced p r low used_here path_here

  pub file_here : option_map (file_in (replaced im L r rec) L) (slot (replaced im L r rec) L p 16) ≡ Some (firm c)
  file_here = ap (option_map (file_in (replaced im L r rec) L)) slot_here ∙ ap (λ x. Some (firm (content_of x))) here ∙ ap (λ x. Some (firm x)) filed.content

  -- the file of a path that neither the old record nor the new one has
  module _ (q : Path) (ne : q ≡ p → ⊥) (old : holds q (record_at im L r) ≡ false) where
    slot_same : slot (replaced im L r rec) L q 16 ≡ slot im L q 16
    slot_same =
        first_same (λ s. holds q (record_at (replaced im L r rec) L s)) (λ s. holds q (record_at im L s)) 16 (λ s l.
        grind (arith, elsewhere s, path_here, not_holds q (record_at (replaced im L r rec) L r)))

    content_same : (o : Option ℕ) → slot im L q 16 ≡ o → option_map (file_in (replaced im L r rec) L) o ≡ option_map (file_in im L) o
    content_same None e = refl
    content_same (Some s) e =
        let f = found_by_first (λ k. holds q (record_at im L k)) 16 s e in
        let ne : s ≡ r → ⊥ = λ z. both_ways (holds q (record_at im L s)) (ap (λ k. holds q (record_at im L k)) z ∙ old) f.here in
        ap (λ x. Some (firm (content_of x))) (elsewhere s ne)

    pub file_same : option_map (file_in (replaced im L r rec) L) (slot (replaced im L r rec) L q 16) ≡ option_map (file_in im L) (slot im L q 16)
    file_same = ap (option_map (file_in (replaced im L r rec) L)) slot_same ∙ content_same (slot im L q 16) refl

-- a slice of the whole image has its shape
pub shape_of : (im xs : List ℕ) (L : ℕ) → is_some (unfit_at im L) ≡ false → xs ≡ im → Shape xs L
shape_of im xs L fit e = subst (λ ys. Shape ys L) (sym e) (fit_image im L fit).shape
