-- A free record that is given a path.
use Rattle.std.proofs.Common.{◌≡◌, ℕ, ◌+◌, ◌<◌, ◌≤◌, true, false, leb, List, [], length, sym, ap, ◌∙◌, arith}
use Rattle.std.proofs.lemmas.List.{nil_from_length}
use Rattle.std.proofs.lemmas.Bool.{and_from, le-leb}
use Rattle.std.proofs.lemmas.Grind.{common_steps}
use Rattle.device.proofs.Writing.{length_part, part_is}
use Rattle.device.specs.Contents.{byte}
use Rattle.device.specs.Paths.{Path, path_fits}
use Rattle.flat.proofs.Blanks.{blank_from, blank_at}
use Rattle.flat.proofs.Edits.{length-labelled, labelled_first, labelled_path, labelled_after}
use Rattle.flat.proofs.Replacing.{Filed}
use Rattle.flat.specs.RecordLaws.{path_parts, fits_made}
use Rattle.flat.specs.Records.{blank, path_length, path_of, size_of, taken, record_fits, labelled}

module _ (rec : List ℕ) (long : 576 ≤ length rec) (free : taken rec ≡ false) (fits : record_fits rec ≡ true) (p : Path) (good : path_fits p ≡ true) where
  room : 1 + length p ≤ length rec
  room = omega (arith, (path_parts p good).1)

  -- what follows the path is zeros
  after : (k : ℕ) → 1 + length p ≤ k → k < length rec → byte (labelled rec p) k ≡ 0
  unfolding record_fits
  after k h l = labelled_after rec p room k h ∙ blank_at rec 0 (length rec) (grind (arith, common_steps)) k (omega arith) l

  pub label_path : path_of (labelled rec p) ≡ p
  label_path = sym (part_is (labelled rec p) 1 (path_length (labelled rec p)) p (grind (arith, labelled_first rec p room)) (λ k l. grind (arith, labelled_path rec p room k, labelled_first rec p room)))

  pub label_taken : taken (labelled rec p) ≡ true
  label_taken = grind (arith, common_steps, labelled_first rec p room, (path_parts p good).0)

  label_size : size_of (labelled rec p) ≡ 0
  label_size = omega (arith, (path_parts p good).1, after 33, after 34, after 35, after 36)

  pub label_fits : record_fits (labelled rec p) ≡ true
  label_fits =
      let new = labelled rec p in
      let s = (path_parts p good).1 in
      let first = labelled_first rec p room in
      let size = label_size in
      let same = length-labelled rec p room in
      fits_made new label_taken
      ∙ and_from (path_fits (path_of new)) _ (ap path_fits label_path ∙ good)
      (and_from (blank new (1 + path_length new) 33) _ (blank_from new (1 + path_length new) 33 (λ k h l. after k (omega arith) (omega arith)))
      (and_from (leb (64 + size_of new) (length new)) _ (le-leb (64 + size_of new) (length new) (omega arith))
      (and_from (blank new 37 64) _ (blank_from new 37 64 (λ k h l. after k (omega arith) (omega arith)))
      (blank_from new (64 + size_of new) (length new) (λ k h l. after k (omega arith) (omega arith))))))

  pub labelled_filed : (L : ℕ) → length rec ≡ 64 + L → Filed L (labelled rec p) p []
  labelled_filed L e = record { long = length-labelled rec p room ∙ e; used = label_taken; path = label_path; content = nil_from_length _ (length_part (labelled rec p) 64 (size_of (labelled rec p)) ∙ label_size); fits = label_fits }
