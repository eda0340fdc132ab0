use Rattle.std.proofs.Common.{◌≡◌, ℕ, ◌+◌, ◌/◌, ◌%◌, List, length, sym, refl, ap, ◌∙◌, arith}
use Rattle.std.proofs.lemmas.List.{length-map}
use Rattle.layout.specs.Entries.{plain, group_of}
use Rattle.layout.specs.Groups.{laid}
use Rattle.nvlog.specs.States.{State, state_of}
use Rattle.nvlog.proofs.Laying.{fit_few, laid_long, lent_words}
use Rattle.nvlog.proofs.Ending.{not_dark}
use Rattle.nvlog.proofs.word_log.WordLog.lay_out.Goals as goal

pub put_group-requires-clause-few : goal.put_group-requires-clause-few
put_group-requires-clause-few c =
    let lent = lent_words c.args.row c.args.pieces.now _ _ c.as_slice.result.now c.in-Some.is c.in_ok-group.ensures.words c.as_slice.ensures.value in
    omega (arith, lent.2, (fit_few c.args.row c.args.pieces.now c.requires.fit).1)

-- the battery never fails
pub invariant_of-self : goal.invariant_of-self
invariant_of-self c =
    let lent = lent_words c.args.row c.args.pieces.now _ _ c.as_slice.result.now c.in-Some.is c.in_ok-group.ensures.words c.as_slice.ensures.value in
    not_dark _ c.in_err-put_group.field-0.0 (c.in_err-put_group.ensures c.args.self.now.memory.words.now refl c.args.self.now.fit (group_of c.args.row c.args.pieces.now) lent.0)

pub returns-in_err-put_group : goal.returns-in_err-put_group
returns-in_err-put_group c =
    let lent = lent_words c.args.row c.args.pieces.now _ _ c.as_slice.result.now c.in-Some.is c.in_ok-group.ensures.words c.as_slice.ensures.value in
    not_dark _ c.in_err-put_group.field-0.0 (c.in_err-put_group.ensures c.args.self.now.memory.words.now refl c.args.self.now.fit (group_of c.args.row c.args.pieces.now) lent.0)

pub invariant_of-self-5 : goal.invariant_of-self-5
invariant_of-self-5 c =
    let circle = c.args.self.now.circle in
    let W = c.args.self.now.memory.words.now in
    let fit = c.args.self.now.fit in
    let g = group_of c.args.row c.args.pieces.now in
    let lent = lent_words c.args.row c.args.pieces.now _ _ c.as_slice.result.now c.in-Some.is c.in_ok-group.ensures.words c.as_slice.ensures.value in
    record { fit = ap (λ m. length m.current) (c.in_ok-put_group.ensures W refl fit g lent.0) ∙ laid_long circle.entries.n circle.head g W (length c.as_slice.result.now / 68) circle.entries.least fit ∙ fit }

pub returns : goal.returns
returns c =
    let s = state_of c.args.self.now in
    let g = group_of c.args.row c.args.pieces.now in
    let k = length c.args.pieces.now in
    let long : length g.pieces ≡ k = length-map c.args.pieces.now plain in
    let lent = lent_words c.args.row c.args.pieces.now _ _ c.as_slice.result.now c.in-Some.is c.in_ok-group.ensures.words c.as_slice.ensures.value in
    let stored = c.in_ok-put_group.ensures s.words refl c.args.self.now.fit g lent.0 in
    let laid_out : ℕ → List ℕ → State = λ n W. record { entries = s.entries; words = W; head = (s.head + n) % s.entries; taken = s.taken + n; writes = s.writes + 1 } in (
      refl,
      sym long,
      ap (λ m. laid_out k m.current) stored
          ∙ ap (λ n. laid_out k (laid s.entries s.head g s.words n)) lent.1
          ∙ ap (λ n. laid_out n (laid s.entries s.head g s.words n)) (sym long),
    )
