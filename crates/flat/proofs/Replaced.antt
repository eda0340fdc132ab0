-- An image in which one record is replaced by any other of its length: it stays fit where the new record is and no other one has its path, and
-- the files of paths that neither record has stay.
use Rattle.std.proofs.Common.{◌≡◌, ℕ, ◌+◌, ◌<◌, true, false, List, length, Some, None, Option, sym, refl, ap, ◌∙◌, ⊎_elim, arith}
use Rattle.std.proofs.lemmas.Bool.{cases_eq, both_ways}
use Rattle.std.specs.Option.{option_map}
use Rattle.device.specs.Files.{firm}
use Rattle.device.specs.Paths.{Path}
use Rattle.flat.proofs.Edits.{length-replaced, replaced_there, replaced_elsewhere}
use Rattle.flat.proofs.Replacing.{file_in}
use Rattle.flat.specs.Images.{record_at, slot, replaced}
use Rattle.flat.specs.Records.{path_of, content_of, taken, holds, record_fits}
use Rattle.flat.specs.SearchLaws.{first_same, found_by_first}
use Rattle.flat.specs.Soundness.{FitImage, slot_is}

module _ (im : List ℕ) (L : ℕ) (fit : FitImage im L) (r : ℕ) (low : r < 16) (rec : List ℕ) (long : length rec ≡ 64 + L) where
  pub here : record_at (replaced im L r rec) L r ≡ rec
  here = replaced_there im L fit.shape r low rec long

  pub elsewhere : (q : ℕ) → (q ≡ r → ⊥) → record_at (replaced im L r rec) L q ≡ record_at im L q
  elsewhere = replaced_elsewhere im L fit.shape r low rec long

  at_place : (q : ℕ) → q ≡ r → record_at (replaced im L r rec) L q ≡ rec
  at_place q e = ap (record_at (replaced im L r rec) L) e ∙ here

  -- the new record is fit, and no other one has its path
  pub fit_replaced : record_fits rec ≡ true → ((s : ℕ) → s < 16 → (s ≡ r → ⊥) → taken rec ≡ true → taken (record_at im L s) ≡ true → path_of (record_at im L s) ≡ path_of rec → ⊥) → FitImage (replaced im L r rec) L
  fit_replaced fits alone = record {
    limit = fit.limit;
    shape = record { least = fit.shape.least; most = fit.shape.most; long = length-replaced im L fit.shape r low rec long ∙ fit.shape.long };
    fits = λ q l. ⊎_elim (λ e. ap record_fits (at_place q e) ∙ fits) (λ ne. ap record_fits (elsewhere q ne) ∙ fit.fits q l) (cases_eq q r);
    alone = λ a b l h t u same. ⊎_elim
        (λ e. let ne : b ≡ r → ⊥ = λ z. (omega arith) in
        alone b (omega arith) ne (sym (ap taken (at_place a e)) ∙ t) (sym (ap taken (elsewhere b ne)) ∙ u) (sym (ap path_of (elsewhere b ne)) ∙ same ∙ ap path_of (at_place a e)))
        (λ ne. ⊎_elim
        (λ e. alone a l ne (sym (ap taken (at_place b e)) ∙ u) (sym (ap taken (elsewhere a ne)) ∙ t) (sym (ap path_of (elsewhere a ne)) ∙ sym same ∙ ap path_of (at_place b e)))
        (λ nb. fit.alone a b l h (sym (ap taken (elsewhere a ne)) ∙ t) (sym (ap taken (elsewhere b nb)) ∙ u) (sym (ap path_of (elsewhere b nb)) ∙ same ∙ ap path_of (elsewhere a ne)))
        (cases_eq b r))
        (cases_eq a r);
  }

  -- the file of a path that neither the old record nor the new one has
  module _ (p : Path) (old : holds p (record_at im L r) ≡ false) (other : holds p rec ≡ false) where
    slot_same : slot (replaced im L r rec) L p 16 ≡ slot im L p 16
    slot_same =
        first_same (λ q. holds p (record_at (replaced im L r rec) L q)) (λ q. holds p (record_at im L q)) 16 (λ q l.
        ⊎_elim (λ e. ap (holds p) (at_place q e) ∙ other ∙ sym (ap (λ k. holds p (record_at im L k)) e ∙ old)) (λ ne. ap (holds p) (elsewhere q ne)) (cases_eq q r))

    content_same : (o : Option ℕ) → slot im L p 16 ≡ o → option_map (file_in (replaced im L r rec) L) o ≡ option_map (file_in im L) o
    content_same None e = refl
    content_same (Some s) e =
        let f = found_by_first (λ q. holds p (record_at im L q)) 16 s e in
        let ne : s ≡ r → ⊥ = λ z. both_ways (holds p (record_at im L s)) (ap (λ k. holds p (record_at im L k)) z ∙ old) f.here in
        ap (λ x. Some (firm (content_of x))) (elsewhere s ne)

    pub file_same : option_map (file_in (replaced im L r rec) L) (slot (replaced im L r rec) L p 16) ≡ option_map (file_in im L) (slot im L p 16)
    file_same = ap (option_map (file_in (replaced im L r rec) L)) slot_same ∙ content_same (slot im L p 16) refl

  -- the file of the new record's path
  pub file_here : FitImage (replaced im L r rec) L → taken rec ≡ true → (p : Path) → path_of rec ≡ p → option_map (file_in (replaced im L r rec) L) (slot (replaced im L r rec) L p 16) ≡ Some (firm (content_of rec))
  file_here after t p e =
      ap (option_map (file_in (replaced im L r rec) L)) (slot_is (replaced im L r rec) L after p r low (ap taken here ∙ t) (ap path_of here ∙ e))
      ∙ ap (λ x. Some (firm (content_of x))) here
