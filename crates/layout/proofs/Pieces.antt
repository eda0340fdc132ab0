-- The pieces of a write.
use Rattle.std.proofs.Common.{◌≡◌, ℕ, zero, suc, ◌+◌, ◌-◌, ◌*◌, ◌^◌, ◌<◌, ◌≤◌, min, true, ltb, leb, ◌⊎◌, List, [], ◌++◌, map, length, get_or, take, drop, Some, None, Ok, sym, refl, ap, ◌∙◌, inl, inr, ⊎_elim, add-one, arith, length-take, take-add}
use Rattle.std.specs.List.{range_with_len, flat_map}
use Rattle.std.proofs.lemmas.List.{take_all, take_at, drop_at, drop_all, drop-drop, flat_map_more, length-drop}
use Rattle.std.proofs.lemmas.List.FromFn.{map-range_with_len_more, length-map-range_with_len, get_or-map-range_with_len}
use Rattle.std.proofs.lemmas.Bool.{and_parts, and_cases, and_from, ltb-true, ltb-false, le-leb, lt-ltb, cases_lt}
use Rattle.std.proofs.lemmas.Bool.Decides.{nat_tests}
use Rattle.layout.specs.Entries.{Piece, Group, no_piece, piece_fits, entry_fits, entry_of}
use Rattle.layout.specs.Marks.{mark_of, is_mark}
use Rattle.layout.specs.Groups.{fit_upto, group_fits}
use Rattle.layout.proofs.Tellings.{cond_some, cond_none}
use Rattle.layout.specs.Writes.{entries_for, write_for, piece_of, piece_for, split_of}

-- the first d pieces joined are the first bytes of the write
pub joined_upto : (offset : ℕ) (bs : List ℕ) (d : ℕ) → flat_map (λ p. p.bytes) (map (piece_of offset bs) (range_with_len 0 d)) ≡ take (512 * d) bs
joined_upto offset bs zero = refl
joined_upto offset bs (suc d) =
    let f = piece_of offset bs in
    let one = map-range_with_len_more f 0 d d (omega arith) in
    let more : 512 * suc d ≡ 512 * d + 512 = omega arith in
    ap (λ n. flat_map (λ p. p.bytes) (map f (range_with_len 0 n))) (sym (add-one d))
    ∙ ap (λ l. flat_map (λ p. p.bytes) l) one
    ∙ sym (flat_map_more (λ (p : Piece). p.bytes) [] (map f (range_with_len 0 d)) (f d))
    ∙ ap (λ l. l ++ take 512 (drop (512 * d) bs)) (joined_upto offset bs d)
    ∙ sym (ap (λ n. take n bs) more ∙ take-add (512 * d) 512 bs)

-- the pieces of a write, joined, give the write back
pub split_joined : (offset : ℕ) (bs : List ℕ) → flat_map (λ p. p.bytes) (split_of offset bs) ≡ bs
unfolding split_of
split_joined offset bs = joined_upto offset bs (entries_for (length bs)) ∙ take_all (512 * entries_for (length bs)) bs (omega arith)

-- a chunk of at most n that was taken from what follows a
pub chunk_taken : (n a : ℕ) (xs x more : List ℕ) → drop a xs ≡ x ++ more → length x ≡ min n (length (drop a xs)) → (x ≡ take n (drop a xs)) × (more ≡ drop (a + n) xs)
chunk_taken n a xs x more is long =
    let rest = drop a xs in
    let front : x ≡ take (length x) rest = sym (take_at x more (length x) refl) ∙ ap (take (length x)) (sym is) in
    let back : more ≡ drop (length x) rest = sym (drop_at x more (length x) refl) ∙ ap (drop (length x)) (sym is) in
    ⊎_elim
    (λ few. (let all : length x ≡ length rest = omega arith in (
      front ∙ take_all (length x) rest (omega arith) ∙ sym (take_all n rest (omega arith)),
      back ∙ drop_all (length x) rest (omega arith) ∙ sym (drop_all n rest (omega arith)) ∙ drop-drop n a xs,
    )))
    (λ many. (let all : length x ≡ n = omega arith in (front ∙ ap (λ k. take k rest) all, back ∙ ap (λ k. drop k rest) all ∙ drop-drop n a xs)))
    (cases_lt (length rest) n)

-- what an answer of the definition tells
module _ (offset : ℕ) (bs : List ℕ) (d : ℕ) where
  pub piece_given : (p : Piece) → Some p ≡ piece_for offset bs d → (p ≡ piece_of offset bs d) × (d < entries_for (length bs))
  piece_given p h =
      let told = cond_some _ p (piece_of offset bs d) h in
      (told.1, ltb-true d (entries_for (length bs)) (and_parts (ltb d (entries_for (length bs))) _ told.0).0)

  pub no_piece_given : None ≡ piece_for offset bs d → (entries_for (length bs) ≤ d) ⊎ (2 ^ 64 ≤ offset + 512 * d)
  no_piece_given h =
      ⊎_elim (λ x. inl (ltb-false d (entries_for (length bs)) x)) (λ x. inr (ltb-false (offset + 512 * d) (2 ^ 64) x))
      (and_cases (ltb d (entries_for (length bs))) _ (cond_none _ (piece_of offset bs d) h))

-- a write that is taken ends below 2 ^ 64, and so does each piece's offset
module _ (limit offset n k : ℕ) (small : limit < 2 ^ 64) (taken : Ok k ≡ write_for limit offset n) where
  pub taken_count : k ≡ entries_for n
  taken_count = grind (arith, nat_tests)

  pub taken_offset : (d : ℕ) → d < entries_for n → offset + 512 * d < 2 ^ 64
  taken_offset d h = grind (arith, nat_tests)

  pub taken_few : n ≤ 4096
  taken_few = grind (arith, nat_tests)

  pub taken_end : 0 < n → offset + n ≤ limit
  taken_end h = grind (arith, nat_tests)

length-split_of : (offset : ℕ) (bs : List ℕ) → length (split_of offset bs) ≡ entries_for (length bs)
unfolding split_of
length-split_of offset bs = length-map-range_with_len (piece_of offset bs) 0 (entries_for (length bs))

get_or-split_of : (offset : ℕ) (bs : List ℕ) (d : ℕ) → d < entries_for (length bs) → get_or (split_of offset bs) d no_piece ≡ piece_of offset bs d
unfolding split_of
get_or-split_of offset bs d h = get_or-map-range_with_len (piece_of offset bs) 0 (entries_for (length bs)) d d no_piece h (omega arith)

-- the pieces of a write make a fit group
module _ (r offset : ℕ) (bs : List ℕ) (row : r < 16) (few : length bs ≤ 4096) (end : offset + length bs ≤ 2097152) where
  group : Group
  group = record { row = r; pieces = split_of offset bs }

  fit_mark : (k d : ℕ) → d < k → k ≤ 8 → is_mark (mark_of k d) ≡ true
  fit_mark k d h l = grind (arith, nat_tests)

  fit_piece : (d : ℕ) → d < entries_for (length bs) → piece_fits (offset + 512 * d) (length (take 512 (drop (512 * d) bs))) ≡ true
  fit_piece d h =
      let n = length (take 512 (drop (512 * d) bs)) in
      let long : n ≡ min 512 (length bs - 512 * d) = length-take 512 (drop (512 * d) bs) ∙ ap (min 512) (length-drop (512 * d) bs) in
      and_from (leb 1 n) _ (le-leb 1 n (omega arith)) (and_from (leb n 512) _ (le-leb n 512 (omega arith)) (le-leb (offset + 512 * d + n) 2097152 (omega arith)))

  fit_entry : (d : ℕ) → d < entries_for (length bs) → entry_fits (entry_of group d) ≡ true
  unfolding group
  fit_entry d h =
      let k = length (split_of offset bs) in
      let long = length-split_of offset bs in
      and_from (is_mark (mark_of k d)) _ (fit_mark k d (omega arith) (omega arith))
      (and_from (ltb r 16) _ (lt-ltb r 16 row) (ap (λ p. piece_fits p.offset (length p.bytes)) (get_or-split_of offset bs d h) ∙ fit_piece d h))

  fit_all : (n : ℕ) → n ≤ entries_for (length bs) → fit_upto group n ≡ true
  fit_all zero h = refl
  fit_all (suc n) h = and_from (entry_fits (entry_of group n)) (fit_upto group n) (fit_entry n (omega arith)) (fit_all n (omega arith))

  pub split_fits : 0 < length bs → group_fits (record { row = r; pieces = split_of offset bs }) ≡ true
  unfolding group
  split_fits some =
      let k = length (split_of offset bs) in
      let long = length-split_of offset bs in
      and_from (leb 1 k) _ (le-leb 1 k (omega arith)) (and_from (leb k 8) _ (le-leb k 8 (omega arith)) (fit_all k (omega arith)))
