use Rattle.std.proofs.Common.{ap}
use Rattle.memory.specs.Meanings.{staged}
use Rattle.memory.proofs.staged.Staged.new.Goals as goal

pub returns : goal.returns
returns c = record {
  planned = c.new.ensures c.args.pattern;
  means = ap (λ p. staged p c.args.current.now c.args.sure.now) (c.new.ensures c.args.pattern);
}
