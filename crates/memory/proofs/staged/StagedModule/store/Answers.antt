use Rattle.std.proofs.Common.{◌<◌, not, refl, ap, ◌∙◌, inl, inr, arith}
use Rattle.std.proofs.lemmas.List.{get_or-take}
use Rattle.std.proofs.lemmas.Result.{err_from_is_err_and}
use Rattle.memory.specs.Meanings.{shorter}
use Rattle.memory.proofs.Parts.{shorter_long, stored_current, stored_sure}
use Rattle.memory.proofs.Answering.{no_power, not_done, done, says_failed}
use Rattle.memory.proofs.staged.StagedModule.store.Goals as goal

pub returns-in_err-draw : goal.returns-in_err-draw
returns-in_err-draw c =
    let s = c.args.self.now in
    let lasts = c.in_err-draw.ensures.lasts s.pattern in
    let after = c.draw.ensures.after s.pattern in
    let says = c.in_err-draw.ensures.declined in
    let exit = err_from_is_err_and c.from_residual.result c.from_residual.ensures.1 in
    rw (exit.1, exit.2) record {
      stored = inl (no_power s c.draw.new.self after says lasts);
      fails = says_failed _ 22 c.args.i says ∙ ap not lasts;
      planned = after;
      unsure = refl;
    }

pub returns-in_err-check_word : goal.returns-in_err-check_word
returns-in_err-check_word c =
    let s = c.args.self.now in
    let lasts = c.in_ok-draw.ensures.lasts s.pattern in
    let after = c.draw.ensures.after s.pattern in
    let says = c.in_err-check_word.ensures.declined in
    let exit = err_from_is_err_and c.from_residual-in_err-check_word.result c.from_residual-in_err-check_word.ensures.1 in
    rw (exit.1, exit.2) record {
      stored = inr (inl (not_done s c.draw.new.self after says lasts (omega (arith, c.width.ensures, c.in_err-check_word.ensures.past))));
      fails = says_failed _ 20 c.args.i says ∙ ap not lasts;
      planned = after;
      unsure = refl;
    }

pub returns-then-self-i : goal.returns-then-self-i
returns-then-self-i c =
    let s = c.args.self.now in
    let xs = s.current.now in
    let ys = s.sure.now in
    let w = shorter xs ys in
    let i = c.args.i in
    let lasts = c.in_ok-draw.ensures.lasts s.pattern in
    let after = c.draw.ensures.after s.pattern in
    let says = c.declines.ensures in
    let lt : i < w = omega (arith, c.width.ensures, shorter_long xs ys, c.in_ok-check_word.ensures.within) in
    record {
      stored = inr (inr (not_done s c.draw.new.self after says lasts
          (omega (arith, shorter_long xs ys), λ same. grind (arith, get_or-take))));
      fails = says_failed _ 21 c.args.i says ∙ ap not lasts;
      planned = after;
      unsure = refl;
    }

pub returns : goal.returns
returns c =
    let s = c.args.self.now in
    let xs = s.current.now in
    let ys = s.sure.now in
    let w = shorter xs ys in
    let i = c.args.i in
    let v = c.args.v in
    let lasts = c.in_ok-draw.ensures.lasts s.pattern in
    let after = c.draw.ensures.after s.pattern in
    let lt : i < w = omega (arith, c.width.ensures, shorter_long xs ys, c.in_ok-check_word.ensures.within) in
    record {
      stored = done s c.draw.new.self after _ ys lasts (omega (arith, shorter_long xs ys), grind (arith, get_or-take))
          record { current = stored_current xs ys i v; sure = inl (stored_sure xs ys i v) };
      fails = ap not lasts;
      planned = after;
      unsure = stored_sure xs ys i v;
    }
