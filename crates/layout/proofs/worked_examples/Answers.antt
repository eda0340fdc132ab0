use Rattle.layout.proofs.Examples.{examples_hold}
use Rattle.layout.proofs.worked_examples.Goals as goal

pub returns : goal.returns
returns c = examples_hold
