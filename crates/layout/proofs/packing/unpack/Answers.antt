use Rattle.std.proofs.Common.{length, arith}
use Rattle.layout.proofs.Packed.{unpacked_by}
use Rattle.layout.proofs.packing.unpack.Goals as goal

pub returns-clause-after : goal.returns-clause-after
returns-clause-after c = unpacked_by (length c.args.bytes.now) c.args.words.now c.loop-i.bytes c.loop-i.auto.bytes (λ k h. c.loop-i.invariant k (omega arith))
