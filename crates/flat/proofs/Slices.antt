-- What a slice of a list is, as a part of it.
use Rattle.std.proofs.Common.{◌≡◌, ℕ, ◌+◌, ◌-◌, ◌≤◌, List, length, take, drop, ap, ◌∙◌, arith}
use Rattle.device.proofs.Writing.{length_part, part_within}
use Rattle.device.specs.Contents.{part}
use Rattle.flat.specs.Records.{all_zero, blank, path_length, path_of}

-- a slice of a list is a part of it
pub slice_part : (xs : List ℕ) (a e n : ℕ) → a + n ≡ e → e ≤ length xs → take (e - a) (drop a xs) ≡ part xs a n
slice_part xs a e n is h = ap (λ m. take m (drop a xs)) (omega arith) ∙ part_within xs a n (omega arith)

pub path_slice : (rec : List ℕ) → 1 + path_length rec ≤ length rec → (take (1 + path_length rec - 1) (drop 1 rec) ≡ path_of rec) × (length (take (1 + path_length rec - 1) (drop 1 rec)) ≡ path_length rec)
path_slice rec h =
    let e = slice_part rec 1 (1 + path_length rec) (path_length rec) (omega arith) h in
    (e, ap length e ∙ length_part rec 1 (path_length rec))

pub blank_slice : (xs : List ℕ) (a e : ℕ) → a ≤ e → e ≤ length xs → all_zero (take (e - a) (drop a xs)) ≡ blank xs a e
blank_slice xs a e l h = ap all_zero (slice_part xs a e (e - a) (omega arith) h)
