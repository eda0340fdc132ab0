-- That each found value of a battery and of a staged module is the current or the sure one, as terms that the modules give.
use Rattle.std.specs.Prelude.{◌≡◌, ℕ, ◌<◌, ◌⊎◌, List, length, take, refl}
use Rattle.std.proofs.Common.{sym, ◌∙◌, inl, inr, ⊎_elim, arith}
use Rattle.std.proofs.lemmas.List.FromFn.{get_or-map-range_with_len, length-map-range_with_len}
use Rattle.std.proofs.lemmas.List.{get_or_past, length-take-le}
use Rattle.std.proofs.lemmas.Bool.{cases_lt, cond_both}
use Rattle.device.specs.Words.{Sound, word, resting}
use Rattle.memory.specs.Plans.{Plan, bit_set, found_at, found_words}
use Rattle.memory.specs.Meanings.{shorter, staged}

pub resting_sound : (W : List ℕ) → Sound (resting W)
resting_sound W = record { sures = refl; founds = refl; chosen = λ i. inl refl }

found_long : (p : ℕ) (xs ys : List ℕ) → length (found_words p xs ys) ≡ length xs
found_long p xs ys = length-map-range_with_len (found_at p xs ys) 0 (length xs)

found_is : (p : ℕ) (xs ys : List ℕ) (i : ℕ) → i < length xs → word (found_words p xs ys) i ≡ found_at p xs ys i
found_is p xs ys i h = get_or-map-range_with_len (found_at p xs ys) 0 (length xs) i i 0 h (omega arith)

found_one : (p : ℕ) (xs ys : List ℕ) (i : ℕ) → (word (found_words p xs ys) i ≡ word xs i) ⊎ (word (found_words p xs ys) i ≡ word ys i)
found_one p xs ys i =
    ⊎_elim
    (λ h. let e = found_is p xs ys i h in
    cond_both (bit_set p i) (word xs i) (word ys i) (λ v. (word (found_words p xs ys) i ≡ v) → (word (found_words p xs ys) i ≡ word xs i) ⊎ (word (found_words p xs ys) i ≡ word ys i)) (λ _ k. inl k) (λ _ k. inr k) e)
    (λ h. inl (get_or_past (found_words p xs ys) i 0 (omega (arith, found_long p xs ys)) ∙ sym (get_or_past xs i 0 h)))
    (cases_lt i (length xs))

pub staged_sound : (p : Plan) (xs ys : List ℕ) → Sound (staged p xs ys)
staged_sound p xs ys =
    let w = shorter xs ys in
    let a = length-take-le w xs (omega arith) in
    let b = length-take-le w ys (omega arith) in
    record { sures = b ∙ sym a; founds = found_long p.pattern (take w xs) (take w ys); chosen = found_one p.pattern (take w xs) (take w ys) }
