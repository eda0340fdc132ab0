use Rattle.device.proofs.Writing.{writes_keep_these_laws}
use Rattle.device.proofs.shelves.writes_keep_these_laws.Goals as goal

pub returns : goal.returns
returns c = writes_keep_these_laws
