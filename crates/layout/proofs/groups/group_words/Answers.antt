use Rattle.std.proofs.Common.{◌≡◌, ◌<◌, ◌≤◌, true, ◌++◌, length, Some, vec_items, sym, refl, ap, ◌∙◌, subst, arith, below_more}
use Rattle.std.proofs.lemmas.List.{length-map}
use Rattle.std.proofs.lemmas.Bool.{eqb-false}
use Rattle.layout.specs.Entries.{plain, group_of, entry_of, entry_words, entry_fits, read_entry}
use Rattle.layout.specs.Marks.{mark_word}
use Rattle.layout.specs.Groups.{words_upto, fit_upto, read_group, in_a_row}
use Rattle.layout.proofs.Grouping.{entry_given, words_upto_none, words_upto_more, in_a_row_is, unfit_one, fit_more, group_back, no_group_unfit, a_group}
use Rattle.layout.proofs.Tellings.{cond_some, cond_none}
use Rattle.layout.proofs.groups.group_words.Goals as goal

pub loop-d-init : goal.loop-d-init
loop-d-init c = (c.new-words.ensures.items ∙ words_upto_none (group_of c.args.row c.args.pieces.now), refl, λ k h. absurd (omega arith))

pub returns-in_default-clause-words : goal.returns-in_default-clause-words
returns-in_default-clause-words c =
    let ps = c.args.pieces.now in
    let g = group_of c.args.row ps in
    let d = c.loop-d.d in
    let is = entry_given c.args.row d ps (mark_word c.of.result) _ c.loop-d-test.true c.of.ensures.word in
    let unfit = ap entry_fits is ∙ cond_none _ _ c.in_default.ensures.words in
    no_group_unfit g (unfit_one g (length g.pieces) d (omega (arith, c.loop-d-test.true, length-map ps plain)) unfit)

pub loop-d-preserved : goal.loop-d-preserved
loop-d-preserved c =
    let ps = c.args.pieces.now in
    let g = group_of c.args.row ps in
    let d = c.loop-d.d in
    let is = entry_given c.args.row d ps (mark_word c.of.result) _ c.loop-d-test.true c.of.ensures.word in
    let told = cond_some _ _ _ c.in-Some.ensures.words in
    let words : c.in-Some.entry ≡ entry_words (entry_of g d) = told.1 ∙ ap entry_words (sym is) in
    let back : read_entry (entry_words (entry_of g d)) ≡ Some (entry_of g d) = sym (ap read_entry words) ∙ c.in-Some.ensures.reads_back ∙ ap (λ e. Some e) (sym is) in
    let items : vec_items c.extend_from_slice.new.self ≡ vec_items c.loop-d.words ++ c.in-Some.entry = c.in_ok-extend_from_slice.ensures.items in (
      items ∙ (λ i. c.loop-d.invariant.0 i ++ words i) ∙ words_upto_more g d,
      fit_more g d c.loop-d.invariant.1 (ap entry_fits is ∙ told.0),
      below_more _ d c.loop-d.invariant.2 back,
    )

pub returns : goal.returns
returns c =
    let ps = c.args.pieces.now in
    let g = group_of c.args.row ps in
    let long : length g.pieces ≡ length ps = length-map ps plain in
    let some : 0 < length g.pieces = omega (arith, eqb-false (length ps) 0 (sym c.is_empty.ensures ∙ c.if-is_empty.false)) in
    let few : length g.pieces ≤ 8 = omega (arith, c.if-pieces-gt-MOST_GROUP.false) in
    let end : c.loop-d.d ≡ length g.pieces = omega (arith, c.loop-d-test.false, c.loop-d.auto.d-end) in
    let items : vec_items c.loop-d.words ≡ words_upto g (length g.pieces) = c.loop-d.invariant.0 ∙ ap (words_upto g) end in
    record {
      words = ap (λ ws. Some ws) items ∙ a_group g some few (subst (λ n. fit_upto g n ≡ true) end c.loop-d.invariant.1);
      reads_back =
          ap (λ ws. read_group (in_a_row ws)) items
          ∙ group_back g (in_a_row (words_upto g (length g.pieces))) (λ d h. ap read_entry (in_a_row_is g (length g.pieces) d h) ∙ c.loop-d.invariant.2 d (omega arith)) some few;
    }
