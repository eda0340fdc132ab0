use Rattle.std.proofs.Common.{◌≡◌, ℕ, ◌&&◌, ◌++◌, ◌-◌, ltb, List, length, get_or, take, drop, replicate, sym, refl, ap, ◌∙◌}
use Rattle.std.proofs.lemmas.Bool.{and_from, and_left, and_right}
use Rattle.layout.specs.Entries.{said, entry_words, piece_fits}
use Rattle.layout.specs.Marks.{is_mark, mark_word}
use Rattle.layout.specs.Packing.{unpacked}
use Rattle.layout.proofs.Packed.{length-unpacked}
use Rattle.layout.proofs.Reading.{no_entry_wide, no_entry_unfit, no_entry_other, an_entry, cut_out, from_ne, from_not_ne}
use Rattle.layout.proofs.entries.read_entry.Goals as goal

pub returns-then-words-ne-ENTRY_WORDS : goal.returns-then-words-ne-ENTRY_WORDS
returns-then-words-ne-ENTRY_WORDS c = (no_entry_wide c.args.words.now c.if-words-ne-ENTRY_WORDS.true, c.declines-bad.ensures)

pub returns-in_default : goal.returns-in_default
returns-in_default c = let ws = c.args.words.now in (no_entry_unfit ws (and_left (is_mark (get_or ws 0 0)) _ c.in_default.ensures), c.declines-bad.ensures)

-- the words' own count is the length of what they say
place_said : (ws : List ℕ) → (ltb (get_or ws 1 0) 16 && piece_fits (get_or ws 2 0) (get_or ws 3 0)) ≡ (ltb (said ws).row 16 && piece_fits (said ws).offset (length (said ws).bytes))
place_said ws = ap (λ n. ltb (get_or ws 1 0) 16 && piece_fits (get_or ws 2 0) n) (sym (length-unpacked (get_or ws 3 0) (drop 4 ws)))

pub returns-then-not-place_fits : goal.returns-then-not-place_fits
returns-then-not-place_fits c =
    let ws = c.args.words.now in
    (no_entry_unfit ws (and_right (is_mark (get_or ws 0 0)) _ (sym (place_said ws) ∙ sym c.if-not-place_fits.ensures)), c.declines-bad.ensures)

-- the words made again of what was read are those of what the words say
made_again : (ws again bs out : List ℕ) (m k : ℕ) → m ≡ get_or ws 0 0 → k ≡ get_or ws 3 0 → bs ≡ unpacked (get_or ws 3 0) (take (length ws - 4) (drop 4 ws)) ++ replicate (512 - get_or ws 3 0) 0 → out ≡ take k bs → again ≡ entry_words (record { mark = m; row = get_or ws 1 0; offset = get_or ws 2 0; bytes = out }) → again ≡ entry_words (said ws)
made_again ws again bs out m k mark count front slice is =
    let cut = cut_out ws bs 4 (get_or ws 3 0) 512 front in
    is ∙ ap (λ n. entry_words (record { mark = n; row = get_or ws 1 0; offset = get_or ws 2 0; bytes = out })) mark
    ∙ ap (λ (b : List ℕ). entry_words (record { mark = get_or ws 0 0; row = get_or ws 1 0; offset = get_or ws 2 0; bytes = b })) (slice ∙ ap (λ n. take n bs) count ∙ cut.0)

pub returns-then-ne : goal.returns-then-ne
returns-then-ne c =
    let ws = c.args.words.now in
    let b = c.unpacked-bytes in
    let again = made_again ws c.as_slice-2.result.now b.result.bytes c.as_slice.result.now (mark_word c.in-Ok.mark) b.result.count c.in-Ok.ensures.1.word b.ensures.count b.ensures.bytes c.as_slice.ensures (c.as_slice-2.ensures ∙ c.words_of-again.ensures.words) in
    (no_entry_other ws (λ e. from_ne ws c.as_slice-2.result.now c.if-ne.ensures (e ∙ sym again)), c.declines-bad.ensures)

pub returns : goal.returns
returns c =
    let ws = c.args.words.now in
    let b = c.unpacked-bytes in
    let again = made_again ws c.as_slice-2.result.now b.result.bytes c.as_slice.result.now (mark_word c.in-Ok.mark) b.result.count c.in-Ok.ensures.1.word b.ensures.count b.ensures.bytes c.as_slice.ensures (c.as_slice-2.ensures ∙ c.words_of-again.ensures.words) in
    let mark = c.in-Ok.ensures in
    let place = sym (place_said ws) ∙ sym c.if-not-place_fits.ensures in (
      said ws,
      an_entry ws (and_from (is_mark (get_or ws 0 0)) _ mark.0 place) (from_not_ne ws c.as_slice-2.result.now c.if-ne.ensures ∙ again),
      record { mark = mark.1; row = refl; offset = refl; count = b.ensures.count ∙ sym (length-unpacked (get_or ws 3 0) (drop 4 ws)); front = (cut_out ws b.result.bytes 4 (get_or ws 3 0) 512 b.ensures.bytes).1 },
    )
