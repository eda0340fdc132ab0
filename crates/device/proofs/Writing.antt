-- Parts of contents, and contents after a write, byte by byte.
use Rattle.std.proofs.Common.{◌≡◌, ℕ, ◌+◌, ◌<◌, ◌≤◌, max, true, false, ◌⊎◌, List, length, take, drop, sym, refl, ap, ◌∙◌, ⊎_elim, arith, rules}
use Rattle.std.proofs.lemmas.List.FromFn.{length-map-range_with_len, get_or-map-range_with_len, fill_by_all}
use Rattle.std.proofs.lemmas.List.{ext_get_or, get_or_past, get_or-take, get_or-drop, places}
use Rattle.std.proofs.lemmas.Bool.{cases_lt, cond-true, cond-false}
use Rattle.std.proofs.lemmas.Bool.Decides.{nat_tests}
use Rattle.device.specs.ContentLaws.{WritesKeepTheseLaws}
use Rattle.device.specs.Contents.{byte, part, inside, size_after, byte_after, written}

pub length_part : (xs : List ℕ) (at n : ℕ) → length (part xs at n) ≡ n
unfolding part
length_part xs at n = length-map-range_with_len (λ i. byte xs (at + i)) 0 n

pub byte-part : (xs : List ℕ) (at n i : ℕ) → i < n → byte (part xs at n) i ≡ byte xs (at + i)
unfolding part
byte-part xs at n i h = get_or-map-range_with_len (λ i. byte xs (at + i)) 0 n i i 0 h (omega arith)

-- a list that has these bytes is the part
pub part_is : (xs : List ℕ) (at n : ℕ) (ys : List ℕ) → length ys ≡ n → ((k : ℕ) → k < n → byte ys k ≡ byte xs (at + k)) → ys ≡ part xs at n
unfolding part
part_is xs at n ys e h = fill_by_all (λ i. byte xs (at + i)) ys n 0 e h

pub part_same : (xs ys : List ℕ) (at bt n : ℕ) → ((k : ℕ) → k < n → byte xs (at + k) ≡ byte ys (bt + k)) → part xs at n ≡ part ys bt n
part_same xs ys at bt n h = part_is ys bt n (part xs at n) (length_part xs at n) (λ k l. byte-part xs at n k l ∙ h k l)

-- a part that lies within the list, as a slice gives it
pub part_within : (xs : List ℕ) (at n : ℕ) → at + n ≤ length xs → take n (drop at xs) ≡ part xs at n
part_within xs at n h = part_is xs at n (take n (drop at xs)) (search (rules, places)) (λ k l. get_or-take n (drop at xs) k 0 l ∙ get_or-drop at xs k 0)

module _ (xs : List ℕ) (at : ℕ) (ds : List ℕ) where
  pub length-written : length (written xs at ds) ≡ size_after (length xs) at (length ds)
  unfolding written
  length-written = length-map-range_with_len (byte_after xs at ds) 0 (size_after (length xs) at (length ds))

  past_all : (i : ℕ) → size_after (length xs) at (length ds) ≤ i → byte_after xs at ds i ≡ 0
  past_all i h =
      let out : inside at (length ds) i ≡ false = grind (arith, nat_tests) in
      let past : length xs ≤ i = grind (arith, nat_tests) in
      cond-false (inside at (length ds) i) _ _ out ∙ get_or_past xs i 0 past

  pub byte-written : (i : ℕ) → byte (written xs at ds) i ≡ byte_after xs at ds i
  unfolding written
  byte-written i =
      ⊎_elim
      (λ l. get_or-map-range_with_len (byte_after xs at ds) 0 (size_after (length xs) at (length ds)) i i 0 l (omega arith))
      (λ h. get_or_past (written xs at ds) i 0 (omega (arith, length-written)) ∙ sym (past_all i h))
      (cases_lt i (size_after (length xs) at (length ds)))

  pub written_there : (k : ℕ) → k < length ds → byte (written xs at ds) (at + k) ≡ byte ds k
  written_there k h =
      let in-it : inside at (length ds) (at + k) ≡ true = grind (arith, nat_tests) in
      byte-written (at + k) ∙ cond-true (inside at (length ds) (at + k)) _ _ in-it ∙ ap (byte ds) (omega arith)

  pub written_others : (i : ℕ) → (i < at) ⊎ (at + length ds ≤ i) → byte (written xs at ds) i ≡ byte xs i
  written_others i h =
      let out : inside at (length ds) i ≡ false = grind (arith, nat_tests) in
      byte-written i ∙ cond-false (inside at (length ds) i) _ _ out

  pub written_nothing : length ds ≡ 0 → written xs at ds ≡ xs
  written_nothing e =
      let size : size_after (length xs) at (length ds) ≡ length xs = grind (arith, nat_tests) in
      ext_get_or 0 (written xs at ds) xs (length-written ∙ size) (λ i _. written_others i (search rules))

  pub written_size : 0 < length ds → length (written xs at ds) ≡ max (length xs) (at + length ds)
  written_size h =
      let size : size_after (length xs) at (length ds) ≡ max (length xs) (at + length ds) = grind (arith, nat_tests) in
      length-written ∙ size

pub writes_keep_these_laws : WritesKeepTheseLaws
writes_keep_these_laws xs at ds = record {
  nothing = written_nothing xs at ds;
  size = written_size xs at ds;
  there = written_there xs at ds;
  read_back = sym (part_is (written xs at ds) at (length ds) ds refl (λ k h. sym (written_there xs at ds k h)));
  others = written_others xs at ds;
  gap = λ i h l. written_others xs at ds i (search rules) ∙ get_or_past xs i 0 h;
}
