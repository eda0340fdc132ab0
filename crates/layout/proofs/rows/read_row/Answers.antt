use Rattle.std.proofs.Common.{◌≡◌, ℕ, ◌++◌, ◌-◌, List, length, get_or, take, drop, replicate, sym, ap, ◌∙◌}
use Rattle.device.specs.Numbers.{told}
use Rattle.layout.specs.Packing.{unpacked}
use Rattle.layout.specs.Rows.{said_path, row_of}
use Rattle.layout.proofs.Packed.{length-unpacked}
use Rattle.layout.proofs.Reading.{no_path_wide, no_path_long, no_path_unfit, no_path_other, a_path, cut_out, row_given, row_declined, from_ne, from_not_ne}
use Rattle.layout.proofs.rows.read_row.Goals as goal
use Rattle.layout.proofs.rows.read_row.Goals.{then-words-ne5-via-then-words-ne5, then-words-ne5-via-else-words-ne5+then-words-gt32}

pub returns-then-words-ne5 : goal.returns-then-words-ne5
returns-then-words-ne5 c = elim c.then-words-ne5.branch [
  | then-words-ne5-via-then-words-ne5 w ↦ (no_path_wide c.args.words.now w.if-words-ne5.true, c.declines-bad.ensures)
  | then-words-ne5-via-else-words-ne5+then-words-gt32 w ↦ (no_path_long c.args.words.now w.if-words-gt32.true, c.declines-bad.ensures)
]

-- what the code took out of the words is what they say
said : (ws bs out : List ℕ) (k : ℕ) → k ≡ get_or ws 0 0 → bs ≡ unpacked (get_or ws 0 0) (take (length ws - 1) (drop 1 ws)) ++ replicate (32 - get_or ws 0 0) 0 → out ≡ take k bs → out ≡ said_path ws
said ws bs out k count front slice = slice ∙ ap (λ n. take n bs) count ∙ (cut_out ws bs 1 (get_or ws 0 0) 32 front).0

pub returns-in_default : goal.returns-in_default
returns-in_default c =
    let ws = c.args.words.now in
    let n = c.unpacked-name in
    let is = said ws n.result.bytes c.as_slice.result.now n.result.count n.ensures.count n.ensures.bytes c.as_slice.ensures in
    (no_path_unfit ws (row_declined (said_path ws) (told c.in_default.field-0) (c.in_default.ensures.words ∙ ap row_of is)), c.declines-bad.ensures)

pub returns-then-ne : goal.returns-then-ne
returns-then-ne c =
    let ws = c.args.words.now in
    let n = c.unpacked-name in
    let is = said ws n.result.bytes c.as_slice.result.now n.result.count n.ensures.count n.ensures.bytes c.as_slice.ensures in
    let row = row_given (said_path ws) c.in-Ok.again (c.in-Ok.ensures.words ∙ ap row_of is) in
    (no_path_other ws (λ e. from_ne ws _ c.if-ne.ensures (e ∙ sym (c.as_slice-2.ensures ∙ row.1))), c.declines-bad.ensures)

pub returns : goal.returns
returns c =
    let ws = c.args.words.now in
    let n = c.unpacked-name in
    let is = said ws n.result.bytes c.as_slice.result.now n.result.count n.ensures.count n.ensures.bytes c.as_slice.ensures in
    let row = row_given (said_path ws) c.in-Ok.again (c.in-Ok.ensures.words ∙ ap row_of is) in (
      said_path ws,
      a_path ws row.0 (from_not_ne ws _ c.if-ne.ensures ∙ c.as_slice-2.ensures ∙ row.1),
      record { long = n.ensures.count ∙ sym (length-unpacked (get_or ws 0 0) (drop 1 ws)); front = (cut_out ws n.result.bytes 1 (get_or ws 0 0) 32 n.ensures.bytes).1 },
    )
