use Rattle.std.proofs.Common.{◌≡◌, ℕ, true, false, take, drop, rules, sym, ◌∙◌}
use Rattle.std.proofs.lemmas.Bool.{false≢true}
use Rattle.std.proofs.lemmas.Iterator.{first_from_Range}
use Rattle.std.proofs.lemmas.Slice.Eq.{bytes_eq-Decides}
use Rattle.std.specs.Str.{bytes_eq}
use Rattle.layout.specs.Places.{row_at}
use Rattle.nvlog.specs.Rows.{RowIs}
use Rattle.nvlog.proofs.Naming.{first_by}
use Rattle.nvlog.proofs.writing.find_row.Goals as goal

pub returns : goal.returns
returns c =
    let W = c.args.words.now in
    let row = c.args.row.now in
    let held = λ (q : ℕ). take 5 (drop (row_at q) W) in
    first_by (λ q. bytes_eq (held q) row) (RowIs W row)
    (λ q. (bytes_eq-Decides (held q) row).0)
    (λ q other is. false≢true (sym other ∙ (bytes_eq-Decides (held q) row).1 is))
    c.find.result
    (first_from_Range (record { start = 0; end = 16 }) _ _ c.find.result (λ q. bytes_eq (held q) row ≡ true) (λ q. bytes_eq (held q) row ≡ false) c.find.ensures.ran (λ x q h. search rules) (λ x q h. (search rules, search rules)))
