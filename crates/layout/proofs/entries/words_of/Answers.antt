use Rattle.std.proofs.Common.{ℕ, List, [], ◌∷◌, ◌++◌, length, ap, ◌∙◌, append-nil, is_ok, arith}
use Rattle.std.proofs.lemmas.Bool.{le-leb, cond-true}
use Rattle.layout.specs.Entries.{entry_words}
use Rattle.layout.specs.Marks.{mark_word}
use Rattle.layout.proofs.entries.words_of.Goals as goal

pub returns : goal.returns
unfolding entry_words
returns c =
    let bytes = c.args.bytes.now in
    let from : ℕ → List ℕ → List ℕ = λ m ws. m ∷ c.args.row ∷ c.args.offset ∷ length bytes ∷ ws in
    record {
      words =
          ap (λ m. from m (c.pack.new.words ++ [])) c.into.ensures
          ∙ ap (from (mark_word c.args.mark)) (append-nil c.pack.new.words ∙ c.pack.ensures.after ∙ cond-true (is_ok c.pack.result) _ _ (c.pack.ensures.fits ∙ le-leb (length bytes) 512 c.requires));
      small = λ i. omega (arith, c.type_inv.bytes i);
    }
