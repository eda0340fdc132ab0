use Rattle.std.proofs.Common.{◌+◌, ◌*◌, ◌^◌, ltb, length, Some, sym, ◌∙◌, arith}
use Rattle.std.proofs.lemmas.Bool.{and_from, lt-ltb, cond-true}
use Rattle.layout.specs.Writes.{entries_for}
use Rattle.layout.proofs.Packed.{part_from}
use Rattle.layout.proofs.writes.piece_of.Goals as goal

pub returns : goal.returns
returns c =
    let bs = c.args.bytes.now in
    let d = c.args.d in
    let cut = part_from 512 (512 * d) c.min-to.result bs (omega arith) c.min-to.ensures in
    let at = c.in_ok-offset.ensures in
    (λ i. Some (record { offset = at.1 i; bytes = cut i }))
    ∙ sym (cond-true _ _ _ (and_from (ltb d (entries_for (length bs))) _ (lt-ltb d (entries_for (length bs)) (omega (arith, c.div_ceil.ensures, c.if-d-div_ceil.false))) (lt-ltb (c.args.offset + 512 * d) (2 ^ 64) at.0)))
