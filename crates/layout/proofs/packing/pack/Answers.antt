use Rattle.std.proofs.Common.{length, arith}
use Rattle.layout.proofs.Packed.{packed_by}
use Rattle.layout.proofs.packing.pack.Goals as goal

pub returns-clause-after : goal.returns-clause-after
returns-clause-after c = packed_by (length c.args.words.now) c.args.bytes.now c.loop-j.words c.loop-j.auto.words (λ k h. c.loop-j.invariant k (omega arith))
