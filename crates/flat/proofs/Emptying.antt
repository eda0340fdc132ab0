-- An image of zeros is a shelf with no file.
use Rattle.std.proofs.Common.{◌≡◌, ℕ, ◌+◌, ◌*◌, ◌<◌, true, false, List, length, get_or, replicate, is_some, None, refl, ap, ◌∙◌, arith}
use Rattle.std.proofs.lemmas.List.{get_or_past, get_or-replicate, length-replicate}
use Rattle.std.proofs.lemmas.Bool.{cond-false, both_ways}
use Rattle.std.proofs.lemmas.Grind.{common_steps}
use Rattle.std.specs.Option.{option_map}
use Rattle.device.specs.Contents.{byte}
use Rattle.device.specs.Files.{limit_fits}
use Rattle.device.specs.Paths.{Path}
use Rattle.flat.proofs.Blanks.{blank_from}
use Rattle.flat.proofs.Edits.{byte_record}
use Rattle.flat.proofs.Replacing.{file_in, fit_from}
use Rattle.flat.specs.Images.{record_at, slot, start, unfit_at}
use Rattle.flat.specs.RecordLaws.{shape_from, length-record_at}
use Rattle.flat.specs.Records.{taken, holds, record_fits}
use Rattle.flat.specs.SearchLaws.{first_none, how_many_none}
use Rattle.flat.specs.Shelves.{flat, none_open, no_files, Live}
use Rattle.flat.specs.Soundness.{FitImage}

-- what is repeated stands at every place, if it is the default too
everywhere : {X : Type 0} (n k : ℕ) (x : X) → get_or (replicate n x) k x ≡ x
everywhere n k x = grind (arith, common_steps, get_or-replicate n k x x, get_or_past (replicate n x) k x, length-replicate n x)

pub none_opened : (h : ℕ) → get_or none_open h false ≡ false
none_opened h = everywhere 16 h false

pub live_none : (im : List ℕ) (L : ℕ) → Live none_open im L
live_none im L = (refl, λ h e. grind (arith, common_steps, everywhere 16 h false))

module _ (L : ℕ) where
  abbrev zeros : List ℕ
  zeros = replicate (16 * (64 + L)) 0

  zero_byte : (r k : ℕ) → k < 64 + L → byte (record_at zeros L r) k ≡ 0
  zero_byte r k h = byte_record zeros L r k h ∙ everywhere (16 * (64 + L)) (start L r + k) 0

  not_taken : (r : ℕ) → taken (record_at zeros L r) ≡ false
  not_taken r = grind (arith, common_steps, zero_byte r 0)

  pub zeros_fit : limit_fits L ≡ true → FitImage zeros L
  unfolding record_fits
  zeros_fit good = record {
    limit = good;
    shape = shape_from zeros L good (length-replicate (16 * (64 + L)) 0);
    fits = λ r l. (let rec = record_at zeros L r in
        grind (arith, common_steps, not_taken r, blank_from rec 0 (length rec) (λ k h b. zero_byte r k (omega (arith, length-record_at zeros L r)))));
    alone = λ r s l h t u e. both_ways (taken (record_at zeros L r)) (not_taken r) t;
  }

  pub zeros_whole : limit_fits L ≡ true → is_some (unfit_at zeros L) ≡ false
  zeros_whole good = fit_from _ L (zeros_fit good)

  no_slot : (p : Path) → slot zeros L p 16 ≡ None
  no_slot p = first_none (λ r. holds p (record_at zeros L r)) 16 (λ r l. grind (arith, common_steps, not_taken r))

  pub zeros_mean : flat zeros L none_open ≡ no_files L
  zeros_mean =
      let handles : (h : ℕ) → (flat zeros L none_open).handle h ≡ None = λ h. cond-false (get_or none_open h false) _ _ (everywhere 16 h false) in
      let files : (p : Path) → (flat zeros L none_open).file p ≡ None = λ p. ap (option_map (file_in zeros L)) (no_slot p) in
      let count = how_many_none (λ r. taken (record_at zeros L r)) 16 (λ r l. not_taken r) in
      λ i. record { lit = true; limit = L; handle = λ h. handles h i; file = λ p. files p i; count = count i }
