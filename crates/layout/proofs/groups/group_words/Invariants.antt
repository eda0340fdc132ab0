use Rattle.std.proofs.Common.{◌≡◌, ℕ, ◌<◌, true, Some, vec_items}
use Rattle.layout.specs.Entries.{group_of, entry_of, entry_words, read_entry}
use Rattle.layout.specs.Groups.{words_upto, fit_upto}
use Rattle.layout.proofs.groups.group_words.Given as goal

abbrev pub invariant-loop-d : goal.invariant-loop-d
invariant-loop-d l =
    let g = group_of l.row l.pieces in
    (vec_items l.words ≡ words_upto g l.d) × (fit_upto g l.d ≡ true) × ((k : ℕ) → k < l.d → read_entry (entry_words (entry_of g k)) ≡ Some (entry_of g k))
