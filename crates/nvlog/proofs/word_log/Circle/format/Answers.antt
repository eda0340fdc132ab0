use Rattle.std.proofs.Common.{◌≡◌, length, replicate, Ok, sym, refl, ap, ◌∙◌}
use Rattle.std.proofs.lemmas.Bool.{cond-true}
use Rattle.layout.specs.Places.{width_of, header_words, empty_words}
use Rattle.nvlog.proofs.Fresh.{header_room, fresh_words, fresh_length}
use Rattle.nvlog.proofs.word_log.Circle.format.Goals as goal

pub returns : goal.returns
returns c =
    let W = c.args.memory.now.words.now in
    let n = c.args.n in
    let counted = c.in_ok-entries.ensures in
    let is : length W ≡ width_of n = sym c.width-width.ensures ∙ c.if-width.false ∙ c.width.ensures ∙ ap width_of counted.1 in
    let front = c.header.ensures ∙ ap header_words counted.1 in
    let room = header_room n (length W) c.header.result is front in
    let done = c.in_ok-put_run.ensures.put (replicate (length W) 0) (c.in_ok-clear_all.ensures W refl) room in
    let words : c.put_run.new.memory.words.now ≡ empty_words n = ap (λ m. m.current) done ∙ fresh_words n (length W) c.header.result is front in (
      cond-true _ _ _ counted.0 ∙ ap (λ w. Ok w) (sym is),
      λ i. record { entries = counted.1 i; words = words i; head = 0; taken = 0; writes = 0 },
      ap length words ∙ fresh_length n ∙ ap width_of (sym counted.1),
    )
