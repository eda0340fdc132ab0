-- A record after a write to its file.
use Rattle.std.proofs.Common.{◌≡◌, ℕ, ◌+◌, ◌-◌, ◌*◌, ◌/◌, ◌%◌, ◌<◌, ◌≤◌, max, true, leb, ◌⊎◌, List, length, sym, ap, ◌∙◌, inl, inr, ⊎_elim, arith}
use native.Mathlib.Nat.{div-div-eq-div-mul}
use Rattle.std.proofs.lemmas.List.{get_or_past}
use Rattle.std.proofs.lemmas.Bool.{and_from, le-leb, cases_lt}
use Rattle.std.proofs.lemmas.Grind.{common_steps}
use Rattle.device.proofs.Writing.{length_part, byte-part, part_is, written_there, written_others, written_size}
use Rattle.device.specs.Contents.{byte, part, written}
use Rattle.device.specs.Paths.{path_fits}
use Rattle.flat.proofs.Blanks.{blank_from, blank_at}
use Rattle.flat.proofs.Edits.{length-stored, stored_size, stored_data, stored_others}
use Rattle.flat.proofs.Replacing.{Filed}
use Rattle.flat.specs.RecordLaws.{WellMade, well_made_parts, fits_made}
use Rattle.flat.specs.Records.{blank, path_length, path_of, size_of, content_of, taken, record_fits, stored}

-- four bytes give the number back
number_back : (n : ℕ) → n < 4294967296 → n % 256 + n / 256 % 256 * 256 + n / 65536 % 256 * 65536 + n / 16777216 % 256 * 16777216 ≡ n
number_back n h = omega (arith, div-div-eq-div-mul n 256 256, div-div-eq-div-mul n 65536 256)

-- the content, as it stands in the record: past the size it is zeros there too
pub content_byte : (rec : List ℕ) (size : ℕ) → blank rec (64 + size) (length rec) ≡ true → (k : ℕ) → 64 + k < length rec → byte rec (64 + k) ≡ byte (part rec 64 size) k
content_byte rec size past k l = grind (arith, common_steps, byte-part rec 64 size k, blank_at rec (64 + size) (length rec) past (64 + k), length_part rec 64 size, get_or_past (part rec 64 size) k 0)

module _ (rec : List ℕ) (few : length rec ≤ 2097216) (used : taken rec ≡ true) (fits : record_fits rec ≡ true)
    (at : ℕ) (ds : List ℕ) (some : 0 < length ds) (room : 64 + at + length ds ≤ length rec) where
  old : WellMade rec
  old = well_made_parts rec used fits

  head_same : (k : ℕ) → k < 33 → byte (stored rec at ds) k ≡ byte rec k
  head_same k l = stored_others rec at ds room k (inl l) (inl (omega arith))

  store_size : size_of (stored rec at ds) ≡ max (size_of rec) (at + length ds)
  store_size =
      let n = max (size_of rec) (at + length ds) in
      let a = stored_size rec at ds room 0 (omega arith) in
      let b = stored_size rec at ds room 1 (omega arith) in
      let c = stored_size rec at ds room 2 (omega arith) in
      let d = stored_size rec at ds room 3 (omega arith) in
      let back = number_back n (omega (arith, old.size)) in
      omega arith

  pub store_taken : taken (stored rec at ds) ≡ true
  store_taken = grind (arith, common_steps, head_same 0)

  pub store_path : path_of (stored rec at ds) ≡ path_of rec
  store_path =
      sym (part_is (stored rec at ds) 1 (path_length (stored rec at ds)) (path_of rec) (grind (arith, length_part rec 1 (path_length rec), head_same 0))
      (λ k l. grind (arith, byte-part rec 1 (path_length rec) k, head_same 0, head_same (1 + k), old.few)))

  pub store_content : content_of (stored rec at ds) ≡ written (content_of rec) at ds
  store_content =
      let new = stored rec at ds in
      let long = length_part rec 64 (size_of rec) in
      let size = store_size in
      let end = written_size (content_of rec) at ds some in
      sym (part_is new 64 (size_of new) (written (content_of rec) at ds) (omega arith) (λ k l. sym (here k (omega (arith, old.size)))))
    where
      here : (k : ℕ) → 64 + k < length rec → byte (stored rec at ds) (64 + k) ≡ byte (written (content_of rec) at ds) k
      here k l =
          let outside = λ (o : (k < at) ⊎ (at + length ds ≤ k)).
          stored_others rec at ds room (64 + k) (inr (omega arith)) (⊎_elim (λ h. inl (omega arith)) (λ h. inr (omega arith)) o)
          ∙ content_byte rec (size_of rec) old.past k l ∙ sym (written_others (content_of rec) at ds k o) in
          ⊎_elim (λ h. outside (inl h))
          (λ h. ⊎_elim
          (λ b. let e : 64 + k ≡ 64 + at + (k - at) = omega arith in let f : at + (k - at) ≡ k = omega arith in
          ap (byte (stored rec at ds)) e ∙ stored_data rec at ds room (k - at) (omega arith)
          ∙ sym (written_there (content_of rec) at ds (k - at) (omega arith)) ∙ ap (byte (written (content_of rec) at ds)) f)
          (λ b. outside (inr b))
          (cases_lt k (at + length ds)))
          (cases_lt k at)

  pub store_fits : record_fits (stored rec at ds) ≡ true
  store_fits =
      let new = stored rec at ds in
      let o = old in
      let size = store_size in
      let same = length-stored rec at ds room in
      let plen = head_same 0 (omega arith) in
      fits_made new store_taken
      ∙ and_from (path_fits (path_of new)) _ (ap path_fits store_path ∙ o.path)
      (and_from (blank new (1 + path_length new) 33) _ (blank_from new (1 + path_length new) 33 (λ k h l. head_same k l ∙ blank_at rec (1 + path_length rec) 33 o.fill k (omega arith) l))
      (and_from (leb (64 + size_of new) (length new)) _ (le-leb (64 + size_of new) (length new) (omega (arith, o.size)))
      (and_from (blank new 37 64) _ (blank_from new 37 64 (λ k h l. stored_others rec at ds room k (inr h) (inl (omega arith)) ∙ blank_at rec 37 64 o.pad k h l))
      (blank_from new (64 + size_of new) (length new) (λ k h l. stored_others rec at ds room k (inr (omega arith)) (inr (omega arith)) ∙ blank_at rec (64 + size_of rec) (length rec) o.past k (omega arith) (omega arith))))))

  pub stored_filed : (L : ℕ) → length rec ≡ 64 + L → Filed L (stored rec at ds) (path_of rec) (written (content_of rec) at ds)
  stored_filed L e = record { long = length-stored rec at ds room ∙ e; used = store_taken; path = store_path; content = store_content; fits = store_fits }
