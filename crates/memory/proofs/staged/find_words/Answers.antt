use Rattle.std.proofs.Common.{arith}
use Rattle.std.proofs.lemmas.List.FromFn.{fill_by_all}
use Rattle.memory.specs.Plans.{found_at}
use Rattle.memory.proofs.staged.find_words.Goals as goal

pub returns : goal.returns
returns c =
    fill_by_all (found_at c.args.pattern c.args.current.now c.args.sure.now) _ _ 0 c.loop-i.auto.current (λ k lt. c.loop-i.invariant.found k (omega arith))
