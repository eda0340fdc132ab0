use Rattle.std.proofs.Common.{rules}
use Rattle.std.proofs.lemmas.Iterator.{first_from_Range}
use Rattle.flat.proofs.Finding.{first_found}
use Rattle.flat.proofs.images.Image.find.Goals as goal

pub returns-clause-first : goal.returns-clause-first
returns-clause-first c = first_found _ _ _ (first_from_Range _ _ _ _ _ _ c.find.ensures.ran (λ x q k. search rules) (λ x q k. search rules))
