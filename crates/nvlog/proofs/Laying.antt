-- A group laid out entry by entry.
use Rattle.std.proofs.Common.{◌≡◌, ℕ, zero, suc, ◌+◌, ◌-◌, ◌*◌, ◌/◌, ◌%◌, ◌<◌, ◌≤◌, true, ltb, leb, List, map, length, IsErrAnd, Some, Ok, Err, vec_items, Option, Result, Vec, sym, refl, ap, ◌∙◌, subst, ⊎_elim, mod-lt, add-one, arith}
use lib.Seq.{paste}
use Rattle.layout.specs.Places.{entry_at, width_of}
use Rattle.std.proofs.lemmas.List.Edits.{length-paste}
use Rattle.std.proofs.lemmas.List.{length-map, length-append, nil_from_length}
use Rattle.std.proofs.lemmas.Bool.{and_parts, leb-true, ltb-true, lt-ltb, le-ltb, cond-true, cond-false, cases_eq}
use Rattle.std.specs.List.{flat_map}
use Rattle.std.specs.Option.{option_map}
use Rattle.std.specs.declared.alloc.Global.{Global}
use Rattle.device.specs.declared.Failure.{Failure}
use Rattle.device.specs.declared.Failure.TheVariants.{Declined, NoMemory}
use Rattle.device.specs.declared.Fault.{Fault}
use Rattle.device.specs.Numbers.{refusal, told}
use Rattle.layout.specs.declared.entries.Piece.{Piece as Given}
use Rattle.layout.specs.Entries.{Group, plain, group_of, entry_words, entry_of}
use Rattle.layout.specs.Groups.{group_fits, group_words, words_upto, in_a_row, laid}
use Rattle.layout.specs.Writes.{Cut, Split, write_for}
use Rattle.layout.proofs.Reading.{length-entry_words}
use Rattle.layout.proofs.Grouping.{in_a_row_is, words_upto_none, words_upto_more}
use Rattle.layout.proofs.Tellings.{cond_some}
use Rattle.nvlog.specs.Rows.{taken_row}
use Rattle.nvlog.specs.States.{State, Fit}
use Rattle.nvlog.specs.Writes.{within, asked, after, LaidOut, Written}
use Rattle.nvlog.specs.declared.word_log.Laid.{Laid as Place}

-- entry d of a group that is given as a run of words
entry_given : (k d : ℕ) (g : Group) (group run : List ℕ) → d < k → group ≡ words_upto g k → run ≡ in_a_row group d → run ≡ entry_words (entry_of g d)
entry_given k d g group run lt given cut = cut ∙ ap (λ ws. in_a_row ws d) given ∙ in_a_row_is g k d lt

entry_long : (k d : ℕ) (g : Group) (group run : List ℕ) → d < k → group ≡ words_upto g k → run ≡ in_a_row group d → length run ≡ 68
entry_long k d g group run lt given cut = ap length (entry_given k d g group run lt given cut) ∙ length-entry_words (entry_of g d)

-- an entry has 68 words
pub words_long : (g : Group) (n : ℕ) → length (words_upto g n) ≡ 68 * n
words_long g zero = ap length (sym (words_upto_none g))
words_long g (suc n) =
    ap (λ k. length (words_upto g k)) (sym (add-one n))
    ∙ ap length (sym (words_upto_more g n))
    ∙ length-append (words_upto g n) (entry_words (entry_of g n))
    ∙ omega (arith, words_long g n, length-entry_words (entry_of g n))

-- how many entries words have
pub words_count : (g : Group) (k : ℕ) (ws : List ℕ) → ws ≡ words_upto g k → length ws / 68 ≡ k
words_count g k ws given = omega (arith, words_long g k, ap length given)

-- the place of an entry is within the words
place_room : (n p d : ℕ) → 9 ≤ n → entry_at ((p + d) % n) + 68 ≤ width_of n
place_room n p d least = let positive : 0 < n = omega arith in omega (arith, mod-lt (p + d) positive)

pub laid_long : (n p : ℕ) (g : Group) (W : List ℕ) (d : ℕ) → 9 ≤ n → length W ≡ width_of n → length (laid n p g W d) ≡ length W
laid_long n p g W zero least wide = refl
laid_long n p g W (suc d) least wide =
    let before = laid_long n p g W d least wide in
    length-paste (laid n p g W d) (entry_at ((p + d) % n)) (entry_words (entry_of g d)) 68 (omega (arith, before, place_room n p d least)) (omega (arith, length-entry_words (entry_of g d))) ∙ before

pub entry_room : (n p k d : ℕ) (g : Group) (W group run : List ℕ) → 9 ≤ n → length W ≡ width_of n → d < k → group ≡ words_upto g k → run ≡ in_a_row group d →
    entry_at ((p + d) % n) + length run ≤ length (laid n p g W d)
entry_room n p k d g W group run least wide lt given cut =
    omega (arith, entry_long k d g group run lt given cut, laid_long n p g W d least wide, place_room n p d least)

pub laid_more : (n p k d : ℕ) (g : Group) (W group run : List ℕ) → d < k → group ≡ words_upto g k → run ≡ in_a_row group d →
    paste (laid n p g W d) (entry_at ((p + d) % n)) run (length run) ≡ laid n p g W (d + 1)
laid_more n p k d g W group run lt given cut =
    (λ i. paste (laid n p g W d) (entry_at ((p + d) % n)) (entry_given k d g group run lt given cut i) (entry_long k d g group run lt given cut i))
    ∙ ap (laid n p g W) (sym (add-one d))

-- a fit group has 1 to 8 pieces
pub fit_few : (r : ℕ) (ps : List Given) → group_fits (group_of r ps) ≡ true → (1 ≤ length ps) × (length ps ≤ 8)
fit_few r ps fit =
    let g = group_of r ps in
    let first = and_parts (leb 1 (length g.pieces)) _ fit in
    let second = and_parts (leb (length g.pieces) 8) _ first.1 in
    let long = length-map ps plain in
    (omega (arith, leb-true 1 (length g.pieces) first.0), omega (arith, leb-true (length g.pieces) 8 second.0))

-- the words of a fit group, as the code gives them
pub group_given : (r : ℕ) (ps : List Given) (ws : List ℕ) → Some ws ≡ group_words (group_of r ps) → ws ≡ words_upto (group_of r ps) (length ps)
group_given r ps ws given =
    let g = group_of r ps in
    (cond_some (group_fits g) ws (words_upto g (length g.pieces)) given).1 ∙ ap (words_upto g) (length-map ps plain)

-- the words of a fit group, lent as a slice
pub lent_words : (r : ℕ) (ps : List Given) (o : Option (Vec ℕ Global)) (v : Vec ℕ Global) (lent : List ℕ) → o ≡ Some v → option_map vec_items o ≡ group_words (group_of r ps) → lent ≡ vec_items v → (lent ≡ words_upto (group_of r ps) (length lent / 68)) × (length lent / 68 ≡ length ps) × (length lent ≡ 68 * length ps)
lent_words r ps o v lent some made value =
    let g = group_of r ps in
    let given = value ∙ group_given r ps (vec_items v) (sym (ap (option_map vec_items) some) ∙ made) in
    let count = words_count g (length ps) lent given in
    (given ∙ ap (words_upto g) (sym count), count, ap length given ∙ words_long g (length ps))

-- what is asked of a write to a row with a name, once it is cut into pieces
module _ (s : State) (row offset : ℕ) (bs : List ℕ) (ps : List Given) (named : taken_row s.words row ≡ true) (cut : Cut 2097152 offset bs (map plain ps)) where
  long : length (map plain ps) ≡ length ps
  long = length-map ps plain

  asked_is : asked s row offset (length bs) ≡ within (s.entries - 1 - s.taken) (Ok (length ps))
  asked_is = cond-true _ _ _ named ∙ ap (within (s.entries - 1 - s.taken)) (cut.count ∙ ap (λ n. Ok n) long)

  pub asked_nothing : length ps ≡ 0 → (asked s row offset (length bs) ≡ Ok 0) × (length bs ≡ 0)
  asked_nothing none =
      let free = s.entries - 1 - s.taken in (
        asked_is ∙ ap (λ n. within free (Ok n)) none ∙ cond-false _ _ _ (le-ltb free 0 (omega arith)),
        ap length (sym cut.whole ∙ ap (λ (l : List Given). flat_map (λ p. p.bytes) (map plain l)) (nil_from_length ps none)),
      )

  pub asked_too_much : (free : ℕ) → free ≡ s.entries - 1 - s.taken → free < length ps → asked s row offset (length bs) ≡ Err (refusal 12 1 free)
  asked_too_much free is few = asked_is ∙ cond-true _ _ _ (lt-ltb (s.entries - 1 - s.taken) (length ps) (omega arith)) ∙ ap (λ n. Err (refusal 12 1 n)) (sym is)

  pub asked_some : 0 < length ps → 0 < length bs
  asked_some some =
      ⊎_elim
      (λ none. let same : Ok (length ps) ≡ write_for 2097152 offset 0 = sym (cut.count ∙ ap (λ n. Ok n) long) ∙ ap (write_for 2097152 offset) none in let zero : length ps ≡ 0 = cc in absurd (omega arith))
      (λ more. omega arith)
      (cases_eq (length bs) 0)

  pub group_is_fit : 0 < length ps → group_fits (group_of row ps) ≡ true
  group_is_fit some = cut.fit row (ltb-true row 16 (and_parts (ltb row 16) _ named).0) (asked_some some) (omega arith)

  asked_laid : length ps + s.taken < s.entries → asked s row offset (length bs) ≡ Ok (length ps)
  asked_laid room = asked_is ∙ cond-false _ _ _ (le-ltb (s.entries - 1 - s.taken) (length ps) (omega arith))

  pub written_laid : (s₁ s' : State) (lent : List Given) (p : Place) → s₁ ≡ s → lent ≡ ps → length ps + s.taken < s.entries → LaidOut s₁ (group_of row lent) (Ok p) s' → Written s row offset bs (Ok (Some p)) s'
  written_laid s₁ s' lent p same is room laid =
      let done = subst (λ l. LaidOut s (group_of row l) (Ok p) s') is (subst (λ t. LaidOut t (group_of row lent) (Ok p) s') same laid) in (
        asked_laid room ∙ ap (λ n. Ok n) (sym (done.1 ∙ long)),
        done.0,
        done.2 ∙ ap (λ l. after s (record { row = row; pieces = l })) cut.pieces,
      )

-- the log has as many words after a group as before it
pub fit_after : (s s' : State) (g : Group) → 9 ≤ s.entries → Fit s → s' ≡ after s g → Fit s'
fit_after s s' g least fit is = subst Fit (sym is) (laid_long s.entries s.head g s.words (length g.pieces) least fit ∙ fit)

-- a write that is not cut into pieces
pub written_declined : (s s' : State) (row offset : ℕ) (bs : List ℕ) (f : Failure) (r : Result (Option Place) Failure) → taken_row s.words row ≡ true → s' ≡ s → Split 2097152 offset bs (Err f) → IsErrAnd r (λ y. y ≡ f) → Written s row offset bs r s'
written_declined s s' row offset bs f (Ok x) named same cut by = absurd by
written_declined s s' row offset bs (Declined e) (Err y) named same cut by =
    subst (λ z. Written s row offset bs (Err z) s') (sym by) (cond-true _ _ _ named ∙ ap (within (s.entries - 1 - s.taken)) cut, same)
written_declined s s' row offset bs NoMemory (Err y) named same cut by = subst (λ z. Written s row offset bs (Err z) s') (sym by) same

-- a write that the log declines itself
pub written_refused : (s s' : State) (row offset : ℕ) (bs : List ℕ) (e : Fault) (f : Failure) → f ≡ Declined e → asked s row offset (length bs) ≡ Err (told e) → s' ≡ s → Written s row offset bs (Err f) s'
written_refused s s' row offset bs e f is declined same = subst (λ z. Written s row offset bs (Err z) s') (sym is) (declined, same)
