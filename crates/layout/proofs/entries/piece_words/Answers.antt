use Rattle.std.proofs.Common.{sym, ap, ◌∙◌}
use Rattle.std.proofs.lemmas.Bool.{and_from}
use Rattle.layout.specs.Entries.{read_entry, piece_entry}
use Rattle.layout.specs.Marks.{is_mark, mark_word}
use Rattle.layout.proofs.Reading.{read_entry-entry_words}
use Rattle.layout.proofs.entries.piece_words.Goals as goal

pub returns-clause-reads_back : goal.returns-clause-reads_back
returns-clause-reads_back c =
    let told = c.words_of.ensures in
    ap read_entry told.words ∙ read_entry-entry_words (piece_entry c.args.row c.args.mark c.args.piece.now) told.small (and_from (is_mark (mark_word c.args.mark)) _ c.requires (sym c.if-not-place_fits.ensures))
