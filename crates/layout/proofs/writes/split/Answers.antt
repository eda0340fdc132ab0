use Rattle.std.proofs.Common.{◌≡◌, ◌+◌, ◌-◌, ◌*◌, ◌^◌, ◌<◌, min, List, [], ◌∷◌, ◌++◌, map, length, drop, true, Ok, vec_items, sym, ap, ◌∙◌, subst, arith, length-drop}
use Rattle.std.proofs.lemmas.List.{map_push, length-map, length-append}
use Rattle.std.proofs.lemmas.List.FromFn.{map-range_with_len_more}
use Rattle.std.specs.Iterator.Adapters.{enumerate_count, enumerate_source}
use Rattle.std.specs.List.{range_with_len, flat_map}
use Rattle.std.specs.Slice.Iter.{chunks_rest}
use Rattle.layout.specs.Entries.{Piece, plain}
use Rattle.layout.specs.Groups.{group_fits}
use Rattle.layout.specs.Writes.{entries_for, piece_of, split_of}
use Rattle.layout.proofs.Pieces.{chunk_taken, taken_count, taken_few, taken_end, split_joined, split_fits}
use Rattle.layout.proofs.writes.split.Goals as goal

pub loop-d-preserved : goal.loop-d-preserved
loop-d-preserved c =
    let bs = c.args.bytes.now in
    let so_far = c.loop-d.invariant in
    let d = enumerate_count c.loop-d.d-iterator in
    let f = piece_of c.args.offset bs in
    let step = c.in-Some.ensures.steps in
    let long : 0 < length bs - 512 * d = omega (arith, step.0.1.2, ap length so_far.rest, length-drop (512 * d) bs) in
    let chunk = chunk_taken 512 (512 * d) bs c.in-Some.bytes.now (chunks_rest (enumerate_source c.next.new.self)) (sym so_far.rest ∙ step.0.1.0) (step.0.1.1 ∙ (λ i. min (so_far.size i) (length (so_far.rest i)))) in
    let is : record { offset = c.args.offset + 512 * c.in-Some.d; bytes = c.in-Some.bytes.now } ≡ f d = λ i. record { offset = c.args.offset + 512 * step.1 i; bytes = chunk.0 i } in
    let pushed = c.in_ok-push.ensures.items in
    record {
      pieces =
          ap (map plain) pushed ∙ map_push plain (vec_items c.loop-d.pieces) _
          ∙ (λ i. (so_far.pieces i) ++ (is i ∷ []))
          ∙ sym (map-range_with_len_more f 0 d d (omega arith))
          ∙ ap (λ n. map f (range_with_len 0 n)) (sym step.2);
      count = ap length pushed ∙ length-append (vec_items c.loop-d.pieces) _ ∙ omega (arith, so_far.count, step.2);
      few = omega (arith, long, step.2);
      rest = chunk.1 ∙ ap (λ n. drop n bs) (omega (arith, step.2));
      size = step.0.0 ∙ so_far.size;
    }

pub returns : goal.returns
unfolding split_of
returns c =
    let limit = c.args.limit in
    let offset = c.args.offset in
    let bs = c.args.bytes.now in
    let v = c.loop-d.pieces in
    let so_far = c.loop-d.invariant in
    let taken = c.in_ok-entries_for.ensures in
    let k = c.in_ok-entries_for.field-0 in
    let small : limit < 2 ^ 64 = omega arith in
    let d = enumerate_count c.loop-d.d-iterator in
    let end : d ≡ entries_for (length bs) = omega (arith, so_far.few, c.in-None.ensures.steps.0.1.0, ap length so_far.rest, length-drop (512 * d) bs) in
    let pieces : map plain (vec_items v) ≡ split_of offset bs = so_far.pieces ∙ ap (λ n. map (piece_of offset bs) (range_with_len 0 n)) end in
    record {
      count = sym taken ∙ ap (λ n. Ok n) (taken_count limit offset (length bs) k small taken ∙ sym end ∙ sym so_far.count ∙ sym (length-map (vec_items v) plain));
      pieces = pieces;
      whole = ap (λ l. flat_map (λ p. p.bytes) l) pieces ∙ split_joined offset bs;
      fit = λ r low some most.
          subst (λ (ps : List Piece). group_fits (record { row = r; pieces = ps }) ≡ true) (sym pieces)
          (split_fits r offset bs low (taken_few limit offset (length bs) k small taken) (omega (arith, taken_end limit offset (length bs) k small taken some)) some);
    }
