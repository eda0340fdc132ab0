-- Records that are replaced, byte by byte.
use Rattle.std.proofs.Common.{◌≡◌, ℕ, ◌+◌, ◌-◌, ◌<◌, ◌≤◌, max, ◌⊎◌, List, length, take, drop, set, Vec, sym, ap, ◌∙◌, inr, arith}
use lib.Seq.{paste, length-paste}
use Rattle.std.proofs.lemmas.Nat.{mul-le}
use Rattle.std.proofs.lemmas.List.{with_items_is, length-set}
use Rattle.std.proofs.lemmas.Grind.{common_steps}
use Rattle.std.proofs.lemmas.Slice.{put_mid-paste}
use borrow.Rule.Slice.PartMut.{put_mid}
use Rattle.std.specs.Vec.{with_items}
use Rattle.device.proofs.Pasted.{paste_before, paste_after, paste_inside, paste_outside}
use Rattle.device.proofs.Writing.{byte-part, part_is, part_same}
use Rattle.device.specs.Contents.{byte}
use Rattle.device.specs.Paths.{Path}
use Rattle.flat.proofs.Slices.{slice_part}
use Rattle.flat.specs.RecordLaws.{length-record_at}
use Rattle.flat.specs.Images.{Shape, start, record_at, replaced}
use Rattle.flat.specs.Records.{number_bytes, size_of, labelled, stored}

-- a record ends where the next begins, or before
pub record_after : (L q r : ℕ) → q < r → start L q + (64 + L) ≤ start L r
record_after L q r h = grind (arith, common_steps, mul-le (q + 1) (64 + L) r (64 + L))

pub byte_record : (im : List ℕ) (L r k : ℕ) → k < 64 + L → byte (record_at im L r) k ≡ byte im (start L r + k)
unfolding record_at
byte_record im L r k h = byte-part im (start L r) (64 + L) k h

module _ (im : List ℕ) (L : ℕ) (shape : Shape im L) (r : ℕ) (low : r < 16) where
  pub record_within : start L r + (64 + L) ≤ length im
  record_within = omega (arith, record_after L r 16 low, shape.long)

  -- a record, as a slice of the image gives it
  pub record_slice : (xs : List ℕ) → xs ≡ im → take (start L r + 64 + L - start L r) (drop (start L r) xs) ≡ record_at im L r
  unfolding record_at
  record_slice xs e = ap (λ ys. take (start L r + 64 + L - start L r) (drop (start L r) ys)) e ∙ slice_part im (start L r) (start L r + 64 + L) (64 + L) (omega arith) (omega (arith, record_within))

  module _ (rec : List ℕ) (long : length rec ≡ 64 + L) where
    pub length-replaced : length (replaced im L r rec) ≡ length im
    unfolding replaced
    length-replaced = grind (arith, common_steps, length-paste {A = ℕ}, record_within)

    -- the image after a write to the slice of record r
    pub put_record : {Z : Type 0} (v : Vec ℕ Z) (xs ys : List ℕ) → v.items ≡ im → xs ≡ im → ys ≡ rec → (with_items v (put_mid (start L r) (start L r + 64 + L - start L r) xs ys)).items ≡ replaced im L r rec
    unfolding replaced
    put_record v xs ys i e w =
        let put = put_mid-paste (start L r) (start L r + 64 + L - start L r) xs ys rec (64 + L) w (omega arith) (sym long) ∙ ap (λ zs. paste zs (start L r) rec (64 + L)) e in
        with_items_is v _ (ap length put ∙ length-replaced ∙ ap length (sym i) ∙ sym v.ok.0) ∙ put

    pub replaced_there : record_at (replaced im L r rec) L r ≡ rec
    unfolding replaced record_at
    replaced_there =
        sym (part_is (paste im (start L r) rec (64 + L)) (start L r) (64 + L) rec long (λ k l.
        sym (paste_inside im (start L r) rec (64 + L) record_within (omega arith) (start L r + k) (omega arith) (omega arith) ∙ ap (byte rec) (omega arith))))

    pub replaced_elsewhere : (q : ℕ) → (q ≡ r → ⊥) → record_at (replaced im L r rec) L q ≡ record_at im L q
    unfolding replaced record_at
    replaced_elsewhere q ne =
        part_same (paste im (start L r) rec (64 + L)) im (start L q) (start L q) (64 + L) (λ k l.
        grind (arith, common_steps, paste_outside im (start L r) rec (64 + L) record_within (omega arith) (start L q + k), record_after L q r, record_after L r q))

-- a record that is given a path
module _ (rec : List ℕ) (p : Path) (room : 1 + length p ≤ length rec) where
  pub length-labelled : length (labelled rec p) ≡ length rec
  unfolding labelled
  length-labelled = grind (arith, common_steps, length-paste {A = ℕ}, length-set {A = ℕ})

  pub labelled_first : byte (labelled rec p) 0 ≡ length p
  unfolding labelled
  labelled_first = grind (arith, common_steps, paste_before (set rec 0 (length p)) 1 p (length p), length-set {A = ℕ})

  pub labelled_path : (k : ℕ) → k < length p → byte (labelled rec p) (1 + k) ≡ byte p k
  unfolding labelled
  labelled_path k l = grind (arith, common_steps, paste_inside (set rec 0 (length p)) 1 p (length p), length-set {A = ℕ})

  pub labelled_after : (k : ℕ) → 1 + length p ≤ k → byte (labelled rec p) k ≡ byte rec k
  unfolding labelled
  labelled_after k l = grind (arith, common_steps, paste_after (set rec 0 (length p)) 1 p (length p), length-set {A = ℕ})

-- a record after a write
module _ (rec : List ℕ) (at : ℕ) (ds : List ℕ) (room : 64 + at + length ds ≤ length rec) where
  abbrev sized : ℕ
  sized = max (size_of rec) (at + length ds)

  abbrev laid : List ℕ
  laid = paste rec (64 + at) ds (length ds)

  laid_long : length laid ≡ length rec
  laid_long = length-paste rec (64 + at) ds (length ds) room (omega arith)

  head_within : 33 + 4 ≤ length laid
  head_within = omega (arith, laid_long)

  pub length-stored : length (stored rec at ds) ≡ length rec
  unfolding stored
  length-stored = length-paste laid 33 (number_bytes sized) 4 head_within (omega arith) ∙ laid_long

  -- the bytes of the size
  pub stored_size : (k : ℕ) → k < 4 → byte (stored rec at ds) (33 + k) ≡ byte (number_bytes (max (size_of rec) (at + length ds))) k
  unfolding stored
  stored_size k l =
      let e : 33 + k - 33 ≡ k = omega arith in
      paste_inside laid 33 (number_bytes sized) 4 head_within (omega arith) (33 + k) (omega arith) (omega arith) ∙ ap (byte (number_bytes sized)) e

  off_size : (k : ℕ) → (k < 33) ⊎ (37 ≤ k) → byte (stored rec at ds) k ≡ byte laid k
  unfolding stored
  off_size k = paste_outside laid 33 (number_bytes sized) 4 head_within (omega arith) k

  pub stored_data : (k : ℕ) → k < length ds → byte (stored rec at ds) (64 + at + k) ≡ byte ds k
  stored_data k l =
      off_size (64 + at + k) (inr (omega arith))
      ∙ paste_inside rec (64 + at) ds (length ds) room (omega arith) (64 + at + k) (omega arith) (omega arith) ∙ ap (byte ds) (omega arith)

  -- all other bytes
  pub stored_others : (k : ℕ) → (k < 33) ⊎ (37 ≤ k) → (k < 64 + at) ⊎ (64 + at + length ds ≤ k) → byte (stored rec at ds) k ≡ byte rec k
  stored_others k h o = off_size k h ∙ paste_outside rec (64 + at) ds (length ds) room (omega arith) k o

-- what a slice of an image is
pub ruleset slices = (record_slice, length-record_at)
