-- The row that a path gets, found in the words before the tail.
use Rattle.std.proofs.Common.{◌≡◌, ℕ, ◌+◌, ◌<◌, ◌≤◌, Bool, true, false, not, ◌&&◌, eqb, ltb, List, length, get_or, take, drop, Some, None, Ok, Err, Option, sym, ap, ◌∙◌, subst, inl, inr, ⊎_elim, arith}
use lib.Seq.{paste}
use Rattle.std.proofs.lemmas.List.{length-take, length-drop, get_or-take, get_or-drop, ext_get_or}
use Rattle.std.proofs.lemmas.List.Edits.{length-paste}
use Rattle.std.proofs.lemmas.Bool.{cases_lt, le-ltb}
use Rattle.std.specs.Option.{MatchOption}
use Rattle.device.specs.Numbers.{Says}
use Rattle.device.specs.declared.Fault.{Fault}
use Rattle.layout.specs.Places.{row_at}
use Rattle.layout.specs.Rows.{row_of, row_words}
use Rattle.layout.proofs.Reading.{row_given, length-row_words}
use Rattle.nvlog.specs.States.{State, Fit, reworded}
use Rattle.nvlog.specs.Rows.{RowIs, FreeRow, FirstRow, Named, taken_row}

-- a log that fits has all its rows of names
pub names_wide : (s : State) → Fit s → 88 ≤ length s.words
names_wide s fit = omega arith

-- the lowest row that passes a test, as a search finds it
pub first_by : (p : ℕ → Bool) (P : ℕ → Type 0) → ((q : ℕ) → p q ≡ true → P q) → ((q : ℕ) → p q ≡ false → P q → ⊥) → (r : Option ℕ) → MatchOption r ((k : ℕ) → 0 ≤ k → k < 16 → p k ≡ false) (λ i. (0 ≤ i) × (i < 16) × (p i ≡ true) × ((k : ℕ) → 0 ≤ k → k < i → p k ≡ false)) → FirstRow P r
first_by p P holds fails (Some r) found = (found.1, holds r found.2, λ q lt. fails q (found.3 q (omega arith) lt))
first_by p P holds fails None found = λ q lt. fails q (found q (omega arith) lt)

first_row : (P Q : ℕ → Type 0) → ((q : ℕ) → q < 16 → P q → Q q) → ((q : ℕ) → q < 16 → Q q → P q) → (r : Option ℕ) → FirstRow P r → FirstRow Q r
first_row P Q to from (Some r) first = (first.0, to r first.0 first.1, λ q lt x. first.2 q lt (from q (omega (arith, first.0)) x))
first_row P Q to from None none = λ q lt x. none q lt (from q lt x)

-- the words before the tail have the rows of W
module _ (W names : List ℕ) (read : names ≡ take 88 W) (wide : 88 ≤ length W) where
  row_same : (q : ℕ) → q < 16 → take 5 (drop (row_at q) names) ≡ take 5 (drop (row_at q) W)
  row_same q lt =
      let at = row_at q in
      let cut = take 88 W in
      let long : length (take 5 (drop at cut)) ≡ 5 = omega (arith, length-take 5 (drop at cut), length-drop at cut, length-take 88 W) in
      let long' : length (take 5 (drop at W)) ≡ 5 = omega (arith, length-take 5 (drop at W), length-drop at W) in
      ap (λ l. take 5 (drop at l)) read ∙ ext_get_or 0 (take 5 (drop at cut)) (take 5 (drop at W)) (long ∙ sym long')
      (λ k below. let few : k < 5 = omega (arith, long) in
      get_or-take 5 (drop at cut) k 0 few ∙ get_or-drop at cut k 0 ∙ get_or-take 88 W (at + k) 0 (omega arith) ∙ sym (get_or-take 5 (drop at W) k 0 few ∙ get_or-drop at W k 0))

  pub taken_same : (q : ℕ) → taken_row names q ≡ taken_row W q
  taken_same q =
      ⊎_elim
      (λ lt. ap (λ v. ltb q 16 && not (eqb v 0)) (ap (λ l. get_or l (row_at q) 0) read ∙ get_or-take 88 W (row_at q) 0 (omega arith)))
      (λ past. let none : ltb q 16 ≡ false = le-ltb q 16 past in ap (λ b. b && not (eqb (get_or names (row_at q) 0) 0)) none ∙ sym (ap (λ b. b && not (eqb (get_or W (row_at q) 0) 0)) none))
      (cases_lt q 16)

  own_row : (row : List ℕ) (r : Option ℕ) → FirstRow (RowIs names row) r → FirstRow (RowIs W row) r
  own_row row = first_row (RowIs names row) (RowIs W row) (λ q lt x. sym (row_same q lt) ∙ x) (λ q lt x. row_same q lt ∙ x)

  free_row : (r : Option ℕ) → FreeRow names r → FreeRow W r
  free_row = first_row (λ q. taken_row names q ≡ false) (λ q. taken_row W q ≡ false) (λ q lt x. sym (taken_same q) ∙ x) (λ q lt x. taken_same q ∙ x)

pub row_seen : (s : State) (names : List ℕ) (row : ℕ) (b : Bool) → Fit s → names ≡ take 88 s.words → b ≡ taken_row names row → taken_row s.words row ≡ b
row_seen s names row b fit read seen = sym (seen ∙ taken_same s.words names read (names_wide s fit) row)

-- what `name` answers
module _ (s s' : State) (path row names : List ℕ) (given : Ok row ≡ row_of path) (read : names ≡ take 88 s.words) (wide : 88 ≤ length s.words) where
  own : (r : Option ℕ) → FirstRow (RowIs names row) r → FirstRow (RowIs s.words (row_words path)) r
  own r first = subst (λ ws. FirstRow (RowIs s.words ws) r) (row_given path row given).1 (own_row s.words names read wide row r first)

  pub named_own : (r : ℕ) → FirstRow (RowIs names row) (Some r) → s' ≡ s → Named s path (Ok r) s'
  named_own r first same = ((row_given path row given).0, inl (own (Some r) first, same))

  pub named_full : (e : Fault) → FirstRow (RowIs names row) None → FreeRow names None → Says e 7 3 16 → s' ≡ s → Named s path (Err e) s'
  named_full e none full says same = (same, inr ((row_given path row given).0, own None none, free_row s.words names read wide None full, says))

  five : length row ≡ 5
  five = ap length (row_given path row given).1 ∙ length-row_words path

  pub row_room : (r : ℕ) → r < 16 → row_at r + length row ≤ length s.words
  row_room r lt = omega (arith, five)

  pub row_long : (r : ℕ) → r < 16 → length (paste s.words (row_at r) row (length row)) ≡ length s.words
  row_long r lt = length-paste s.words (row_at r) row (length row) (row_room r lt) (omega arith)

  pub named_free : (r : ℕ) → FirstRow (RowIs names row) None → FreeRow names (Some r) → s' ≡ reworded s (paste s.words (row_at r) row (length row)) → Named s path (Ok r) s'
  named_free r none free after = (
    (row_given path row given).0,
    inr (
      own None none,
      free_row s.words names read wide (Some r) free,
      after ∙ ap (reworded s) (λ i. paste s.words (row_at r) ((row_given path row given).1 i) (five i)),
    ),
  )
