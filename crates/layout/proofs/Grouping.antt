-- The entries of a group.
use Rattle.std.proofs.Common.{◌≡◌, ℕ, zero, suc, ◌+◌, ◌*◌, ◌<◌, ◌≤◌, true, false, eqb, ltb, leb, List, [], ◌∷◌, ◌++◌, map, length, get_or, take, drop, Some, None, sym, refl, ap, ◌∙◌, subst, ⊎_elim, add-zero, add_comm, zero-add, mul-suc, add-one, arith}
use Rattle.std.specs.List.{range_with_len, flat_map}
use Rattle.std.specs.Option.{option_map}
use Rattle.std.proofs.lemmas.List.{length-map, get_or-map, flat_map_more, take_at, drop_at, drop-drop, drop_all, drop_more, map-id}
use Rattle.std.proofs.lemmas.List.FromFn.{map-range_with_len_more}
use Rattle.std.proofs.lemmas.Bool.{and_from, and_left, and_right, cond-true, cond-false, lt-leb, le-leb, le-ltb, lt-ltb, eq-eqb, cases_lt, and_parts, and_cases, both_ways}
use Rattle.layout.specs.declared.entries.Piece.{Piece as Given}
use Rattle.layout.specs.Entries.{Group, Entry, no_piece, plain, entry_fits, entry_words, entry_of, entry_words_of, group_of, read_entry}
use Rattle.layout.specs.Marks.{mark_of}
use Rattle.layout.proofs.Tellings.{cond_some, cond_none}
use Rattle.layout.specs.Groups.{words_upto, group_words, fit_upto, one_more, pieces_from, group_after, read_group, in_a_row}
use Rattle.layout.proofs.Reading.{length-entry_words}

module _ (row d : ℕ) (ps : List Given) where
  pub entry_given : (m : ℕ) (z : Given) → d < length ps → m ≡ mark_of (length ps) d → entry_of (group_of row ps) d ≡ record { mark = m; row = row; offset = (get_or ps d z).offset; bytes = (get_or ps d z).bytes.now }
  entry_given m z h e =
      let marks : mark_of (length (map plain ps)) d ≡ m = ap (λ k. mark_of k d) (length-map ps plain) ∙ sym e in
      let same : get_or (map plain ps) d no_piece ≡ plain (get_or ps d z) = get_or-map plain ps d z no_piece h in
      λ i. record { mark = marks i; row = row; offset = (same i).offset; bytes = (same i).bytes }

  pub no_words_many : 8 < length ps → None ≡ entry_words_of (group_of row ps) d
  no_words_many h = sym (cond-false _ _ _ (and_left (leb (length (map plain ps)) 8) _ (lt-leb (length (map plain ps)) 8 (omega (arith, length-map ps plain)))))

  pub no_words_past : length ps ≤ d → None ≡ entry_words_of (group_of row ps) d
  no_words_past h = sym (cond-false _ _ _ (and_right (leb (length (map plain ps)) 8) _ (and_left (ltb d (length (map plain ps))) _ (le-ltb d (length (map plain ps)) (omega (arith, length-map ps plain))))))

  pub no_words_unfit : (e : Entry) → entry_of (group_of row ps) d ≡ e → entry_fits e ≡ false → None ≡ entry_words_of (group_of row ps) d
  no_words_unfit e is f = sym (cond-false _ _ _ (and_right (leb (length (map plain ps)) 8) _ (and_right (ltb d (length (map plain ps))) _ (ap entry_fits is ∙ f))))

  pub words_given : (e : Entry) → entry_of (group_of row ps) d ≡ e → length ps ≤ 8 → d < length ps → entry_fits e ≡ true → Some (entry_words e) ≡ entry_words_of (group_of row ps) d
  words_given e is few h f =
      let long = length-map ps plain in
      ap (λ x. Some (entry_words x)) (sym is)
      ∙ sym (cond-true _ _ _ (and_from (leb (length (map plain ps)) 8) _ (le-leb (length (map plain ps)) 8 (omega arith)) (and_from (ltb d (length (map plain ps))) _ (lt-ltb d (length (map plain ps)) (omega arith)) (ap entry_fits is ∙ f))))

-- a group's words entry after entry, and reading them back

counting_more : (d : ℕ) → range_with_len 0 (d + 1) ≡ range_with_len 0 d ++ d ∷ []
counting_more d = sym (map-id (range_with_len 0 (d + 1))) ∙ map-range_with_len_more (λ (n : ℕ). n) 0 d d (omega arith) ∙ ap (λ l. l ++ d ∷ []) (map-id (range_with_len 0 d))

pub words_upto_none : (g : Group) → [] ≡ words_upto g 0
unfolding words_upto
words_upto_none g = refl

pub words_upto_more : (g : Group) (d : ℕ) → words_upto g d ++ entry_words (entry_of g d) ≡ words_upto g (d + 1)
unfolding words_upto
words_upto_more g d = flat_map_more (λ (n : ℕ). entry_words (entry_of g n)) [] (range_with_len 0 d) d ∙ ap (flat_map (λ n. entry_words (entry_of g n))) (sym (counting_more d))

-- runs of m items joined, and run d cut out again
cut_run : {X : Type 0} (m : ℕ) (f : ℕ → List X) → ((n : ℕ) → length (f n) ≡ m) → (n a d : ℕ) → d < n → take m (drop (m * d) (flat_map f (range_with_len a n))) ≡ f (a + d)
cut_run m f long zero a d h = absurd (omega arith)
cut_run m f long (suc n) a zero h =
    let none : m * 0 ≡ 0 = omega arith in
    ap (λ k. take m (drop k (f a ++ flat_map f (range_with_len (a + 1) n)))) none
    ∙ take_at (f a) (flat_map f (range_with_len (a + 1) n)) m (long a)
    ∙ ap f (sym (add-zero a))
cut_run m f long (suc n) a (suc d) h =
    let rest = flat_map f (range_with_len (a + 1) n) in
    let next : a + 1 + d ≡ a + suc d = omega arith in
    ap (λ k. take m (drop k (f a ++ rest))) (mul-suc m d ∙ add_comm (m * d) m)
    ∙ ap (take m) (sym (drop-drop (m * d) m (f a ++ rest)) ∙ ap (drop (m * d)) (drop_at (f a) rest m (long a)))
    ∙ cut_run m f long n (a + 1) d (omega arith)
    ∙ ap f next

pub in_a_row_is : (g : Group) (n d : ℕ) → d < n → in_a_row (words_upto g n) d ≡ entry_words (entry_of g d)
unfolding words_upto
in_a_row_is g n d h = cut_run 68 (λ k. entry_words (entry_of g k)) (λ k. length-entry_words (entry_of g k)) n 0 d h ∙ ap (λ k. entry_words (entry_of g k)) (zero-add d)

pub unfit_one : (g : Group) (n d : ℕ) → d < n → entry_fits (entry_of g d) ≡ false → fit_upto g n ≡ false
unfit_one g zero d h f = absurd (omega arith)
unfit_one g (suc n) d h f =
    ⊎_elim (λ lt. and_right (entry_fits (entry_of g n)) (fit_upto g n) (unfit_one g n d lt f))
    (λ le. let same : d ≡ n = omega arith in and_left (entry_fits (entry_of g n)) (fit_upto g n) (subst (λ k. entry_fits (entry_of g k) ≡ false) same f))
    (cases_lt d n)

pub fit_more : (g : Group) (d : ℕ) → fit_upto g d ≡ true → entry_fits (entry_of g d) ≡ true → fit_upto g (d + 1) ≡ true
fit_more g d h f = ap (fit_upto g) (add-one d) ∙ and_from (entry_fits (entry_of g d)) (fit_upto g d) f h

module _ (g : Group) (at : ℕ → List ℕ) (each : (d : ℕ) → d < length g.pieces → read_entry (at d) ≡ Some (entry_of g d)) where
  pieces_back : (n d : ℕ) → d + n ≡ length g.pieces → pieces_from at (length g.pieces) g.row d n ≡ Some (drop d g.pieces)
  pieces_back zero d h = ap (λ l. Some l) (sym (drop_all d g.pieces (omega arith)))
  pieces_back (suc n) d h =
      let k = length g.pieces in
      let e = entry_of g d in
      let rest = pieces_back n (d + 1) (omega arith) in
      ap (λ o. one_more k g.row d o (pieces_from at k g.row (d + 1) n)) (each d (omega arith))
      ∙ cond-true _ _ _ (and_from (eqb (mark_of k d) (mark_of k d)) _ (eq-eqb (mark_of k d) (mark_of k d) refl) (eq-eqb g.row g.row refl))
      ∙ ap (option_map (λ l. record { offset = e.offset; bytes = e.bytes } ∷ l)) rest
      ∙ ap (λ l. Some l) (sym (drop_more g.pieces d no_piece (omega arith)))

  pub group_back : 0 < length g.pieces → length g.pieces ≤ 8 → read_group at ≡ Some g
  group_back some few =
      ap (group_after at) (each 0 some)
      ∙ cond-true _ _ _ (le-leb (length g.pieces) 8 few)
      ∙ ap (option_map (λ ps. record { row = g.row; pieces = ps })) (pieces_back (length g.pieces) 0 (zero-add (length g.pieces)))

-- what the answer for one entry tells
module _ (g : Group) (d : ℕ) where
  pub entry_told : (ws : List ℕ) → Some ws ≡ entry_words_of g d → (entry_fits (entry_of g d) ≡ true) × (ws ≡ entry_words (entry_of g d))
  entry_told ws h =
      let told = cond_some _ ws (entry_words (entry_of g d)) h in
      ((and_parts (ltb d (length g.pieces)) _ (and_parts (leb (length g.pieces) 8) _ told.0).1).1, told.1)

  pub no_entry_told : length g.pieces ≤ 8 → d < length g.pieces → None ≡ entry_words_of g d → entry_fits (entry_of g d) ≡ false
  no_entry_told few h e =
      ⊎_elim (λ f. absurd (both_ways _ f (le-leb (length g.pieces) 8 few)))
      (λ f. ⊎_elim (λ l. absurd (both_ways _ l (lt-ltb d (length g.pieces) h))) (λ u. u) (and_cases (ltb d (length g.pieces)) _ f))
      (and_cases (leb (length g.pieces) 8) _ (cond_none _ (entry_words (entry_of g d)) e))

-- when a group has words
module _ (g : Group) where
  pub no_group_none : length g.pieces ≡ 0 → None ≡ group_words g
  no_group_none h = sym (cond-false _ _ _ (and_left (leb 1 (length g.pieces)) _ (lt-leb 1 (length g.pieces) (omega arith))))

  pub no_group_many : 8 < length g.pieces → None ≡ group_words g
  no_group_many h = sym (cond-false _ _ _ (and_right (leb 1 (length g.pieces)) _ (and_left (leb (length g.pieces) 8) _ (lt-leb (length g.pieces) 8 h))))

  pub no_group_unfit : fit_upto g (length g.pieces) ≡ false → None ≡ group_words g
  no_group_unfit h = sym (cond-false _ _ _ (and_right (leb 1 (length g.pieces)) _ (and_right (leb (length g.pieces) 8) _ h)))

  pub a_group : 0 < length g.pieces → length g.pieces ≤ 8 → fit_upto g (length g.pieces) ≡ true → Some (words_upto g (length g.pieces)) ≡ group_words g
  a_group some few h = sym (cond-true _ _ _ (and_from (leb 1 (length g.pieces)) _ (le-leb 1 (length g.pieces) some) (and_from (leb (length g.pieces) 8) _ (le-leb (length g.pieces) 8 few) h)))
