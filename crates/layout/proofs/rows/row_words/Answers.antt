use Rattle.std.proofs.Common.{◌≡◌, leb, [], ◌∷◌, ◌++◌, length, Ok, sym, ap, ◌∙◌, append-nil, is_ok, arith}
use Rattle.std.proofs.lemmas.Bool.{and_parts, cond-true}
use Rattle.layout.specs.Rows.{row_words, read_path}
use Rattle.layout.proofs.Reading.{read_path-row_words}
use Rattle.layout.proofs.rows.row_words.Goals as goal

pub returns : goal.returns
unfolding row_words
returns c =
    let path = c.args.path.now in
    let fits = sym c.if-not-path_fits.ensures in
    let few = (and_parts (leb (length path) 32) _ (and_parts (leb 1 (length path)) _ fits).1).0 in
    let is : (length path ∷ (c.pack.new.words ++ [])) ≡ row_words path =
    ap (λ ws. length path ∷ ws) (append-nil c.pack.new.words ∙ c.pack.ensures.after ∙ cond-true (is_ok c.pack.result) _ _ (c.pack.ensures.fits ∙ few)) in
    record {
      words = ap (λ ws. Ok ws) is ∙ sym (cond-true _ _ _ fits);
      reads_back = ap read_path is ∙ read_path-row_words path (λ i. omega (arith, c.type_inv.path i)) fits;
    }
