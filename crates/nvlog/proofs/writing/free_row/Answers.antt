use Rattle.std.proofs.Common.{◌≡◌, true, false, not, rules, sym, ◌∙◌}
use Rattle.std.proofs.lemmas.Bool.{false≢true, not-false, not-true}
use Rattle.std.proofs.lemmas.Iterator.{first_from_Range}
use Rattle.nvlog.specs.Rows.{taken_row}
use Rattle.nvlog.proofs.Naming.{first_by}
use Rattle.nvlog.proofs.writing.free_row.Goals as goal

pub returns : goal.returns
returns c =
    let W = c.args.words.now in
    first_by (λ q. not (taken_row W q)) (λ q. taken_row W q ≡ false)
    (λ q. not-true (taken_row W q))
    (λ q full is. false≢true (sym is ∙ not-false (taken_row W q) full))
    c.find.result
    (first_from_Range (record { start = 0; end = 16 }) _ _ c.find.result (λ q. not (taken_row W q) ≡ true) (λ q. not (taken_row W q) ≡ false) c.find.ensures.ran (λ x q h. search rules) (λ x q h. (search rules, search rules)))
