-- Runs of zeros.
use Rattle.std.proofs.Common.{◌≡◌, ℕ, zero, suc, ◌+◌, ◌-◌, ◌<◌, ◌≤◌, true, eqb, List, [], ◌∷◌, length, refl, arith}
use Rattle.std.proofs.lemmas.Bool.{and_parts}
use Rattle.std.proofs.lemmas.Grind.{common_steps}
use Rattle.device.proofs.Writing.{length_part, byte-part}
use Rattle.device.specs.Contents.{byte, part}
use Rattle.flat.specs.Records.{all_zero, blank}

all_zero_from : (xs : List ℕ) → ((k : ℕ) → k < length xs → byte xs k ≡ 0) → all_zero xs ≡ true
all_zero_from [] h = refl
all_zero_from (x ∷ xs) h = grind (arith, common_steps, h 0 (omega arith), all_zero_from xs (λ k l. h (suc k) (omega arith)))

all_zero_at : (xs : List ℕ) → all_zero xs ≡ true → (k : ℕ) → byte xs k ≡ 0
all_zero_at [] e k = refl
all_zero_at (x ∷ xs) e zero = grind (arith, common_steps)
all_zero_at (x ∷ xs) e (suc k) = all_zero_at xs (and_parts (eqb x 0) (all_zero xs) e).1 k

pub blank_from : (xs : List ℕ) (at end : ℕ) → ((k : ℕ) → at ≤ k → k < end → byte xs k ≡ 0) → blank xs at end ≡ true
blank_from xs at end h = all_zero_from (part xs at (end - at)) (λ k l. grind (arith, common_steps, length_part xs at (end - at), byte-part xs at (end - at) k, h (at + k)))

pub blank_at : (xs : List ℕ) (at end : ℕ) → blank xs at end ≡ true → (k : ℕ) → at ≤ k → k < end → byte xs k ≡ 0
blank_at xs at end e k l h = grind (arith, common_steps, byte-part xs at (end - at) (k - at), all_zero_at (part xs at (end - at)) e (k - at))
