use Rattle.std.proofs.Common.{◌≡◌, ◌+◌, ◌-◌, ◌*◌, ◌/◌, ◌%◌, ◌<◌, min, ℕ, length, drop, Some, sym, ap, ◌∙◌, arith, length-drop}
use lib.Seq.{paste}
use Rattle.std.specs.Iterator.Adapters.{enumerate_count, enumerate_source}
use Rattle.std.specs.Slice.Iter.{chunks_rest}
use Rattle.device.specs.Words.{resting}
use Rattle.layout.specs.Groups.{laid}
use Rattle.layout.specs.Places.{entry_at, entry_for}
use Rattle.layout.proofs.Pieces.{chunk_taken}
use Rattle.layout.proofs.Tellings.{cond_some}
use Rattle.nvlog.proofs.Laying.{laid_more, entry_room, words_long}
use Rattle.nvlog.proofs.Ending.{rests_as, ends_exit}
use Rattle.nvlog.proofs.writing.put_group.Goals as goal

-- where entry d stands, as the code is told
start_is : (n p d e s : ℕ) → d ≡ e → Some s ≡ entry_for n p d → s ≡ entry_at ((p + e) % n)
start_is n p d e s same told = (cond_some _ s (entry_at ((p + d) % n)) told).1 ∙ ap (λ k. entry_at ((p + k) % n)) same

pub loop-d-preserved : goal.loop-d-preserved
loop-d-preserved g c =
    let n = c.args.entries.n in
    let p = c.args.position in
    let words = c.args.group.now in
    let so_far = c.loop-d.invariant in
    let d = enumerate_count c.loop-d.d-iterator in
    let run = c.in-Some.entry.now in
    let step = c.in-Some.ensures.steps in
    let long : 0 < length words - 68 * d = omega (arith, step.0.1.2, ap length so_far.rest, length-drop (68 * d) words) in
    let chunk = chunk_taken 68 (68 * d) words run (chunks_rest (enumerate_source c.next.new.self)) (sym so_far.rest ∙ step.0.1.0) (step.0.1.1 ∙ (λ i. min (so_far.size i) (length (so_far.rest i)))) in
    let start = start_is n p c.in-Some.d d c.unwrap-start.result step.1 (sym c.unwrap-start.ensures ∙ c.entry_start.ensures) in
    record {
      rest = chunk.1 ∙ ap (λ k. drop k words) (omega (arith, step.2));
      size = step.0.0 ∙ so_far.size;
      few = omega (arith, long, step.2);
      stands = λ W rest wide group given.
          let k = length words / 68 in
          let lt : d < k = omega (arith, long, words_long group k, ap length given) in
          let before = laid n p group W d in
          let room = entry_room n p k d group W words run c.args.entries.least wide lt given chunk.0 in
          let put = c.in_ok-put_run.ensures.put before (so_far.stands W rest wide group given) (omega (arith, start, room)) in
          rests_as (paste before c.unwrap-start.result run (length run)) (laid n p group W (d + 1)) (g.M.Module.meaning c.put_run.new.memory) put
          (ap (λ s. paste before s run (length run)) start ∙ laid_more n p k d group W words run lt given chunk.0)
          ∙ ap (λ m. resting (laid n p group W m)) (sym step.2);
    }

pub returns-in_err-put_run : goal.returns-in_err-put_run
returns-in_err-put_run g c = λ W rest wide group given.
    let n = c.args.entries.n in
    let p = c.args.position in
    let words = c.args.group.now in
    let so_far = c.loop-d.invariant in
    let d = enumerate_count c.loop-d.d-iterator in
    let run = c.in-Some.entry.now in
    let step = c.in-Some.ensures.steps in
    let k = length words / 68 in
    let long : 0 < length words - 68 * d = omega (arith, step.0.1.2, ap length so_far.rest, length-drop (68 * d) words) in
    let chunk = chunk_taken 68 (68 * d) words run (chunks_rest (enumerate_source c.next.new.self)) (sym so_far.rest ∙ step.0.1.0) (step.0.1.1 ∙ (λ i. min (so_far.size i) (length (so_far.rest i)))) in
    let start = start_is n p c.in-Some.d d c.unwrap-start.result step.1 (sym c.unwrap-start.ensures ∙ c.entry_start.ensures) in
    let lt : d < k = omega (arith, long, words_long group k, ap length given) in
    let room = entry_room n p k d group W words run c.args.entries.least wide lt given chunk.0 in
    ends_exit (laid n p group W k) (g.M.Module.meaning c.put_run.new.memory) c.in_err-put_run.field-0.0 c.from_residual.result c.from_residual.ensures.1
    (c.in_err-put_run.ensures.put (laid n p group W d) (so_far.stands W rest wide group given) (omega (arith, start, room))).failed

pub returns : goal.returns
returns g c = λ W rest wide group given.
    let words = c.args.group.now in
    let so_far = c.loop-d.invariant in
    let d = enumerate_count c.loop-d.d-iterator in
    let k = length words / 68 in
    let none : length words - 68 * d ≡ 0 = omega (arith, c.in-None.ensures.steps.0.1.0, ap length so_far.rest, length-drop (68 * d) words) in
    let end : d ≡ k = omega (arith, none, so_far.few, words_long group k, ap length given) in
    so_far.stands W rest wide group given ∙ ap (λ m. resting (laid c.args.entries.n c.args.position group W m)) end
