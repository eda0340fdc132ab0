use Rattle.std.proofs.Common.{◌+◌, ◌≤◌, not, ap, ◌∙◌, inl, inr, arith}
use Rattle.std.proofs.lemmas.Result.{err_from_is_err_and}
use Rattle.memory.specs.Meanings.{plan, plan_of, shorter}
use Rattle.memory.proofs.Parts.{shorter_long, copied}
use Rattle.memory.proofs.Answering.{no_power, not_done, done, says_failed}
use Rattle.memory.proofs.staged.StagedModule.settle.Goals as goal

pub returns-in_err-draw : goal.returns-in_err-draw
returns-in_err-draw c =
    let s = c.args.self.now in
    let lasts = c.in_err-draw.ensures.lasts s.pattern in
    let after = c.draw.ensures.after s.pattern in
    let says = c.in_err-draw.ensures.declined in
    let exit = err_from_is_err_and c.from_residual.result c.from_residual.ensures.1 in
    rw (exit.1, exit.2) record {
      settled = inl (no_power s c.draw.new.self after says lasts);
      fails = says_failed _ 22 c.args.i says ∙ ap not lasts;
      planned = after;
    }

pub returns-in_err-check_run : goal.returns-in_err-check_run
returns-in_err-check_run c =
    let s = c.args.self.now in
    let lasts = c.in_ok-draw.ensures.lasts s.pattern in
    let after = c.draw.ensures.after s.pattern in
    let says = c.in_err-check_run.ensures.declined in
    let exit = err_from_is_err_and c.from_residual-in_err-check_run.result c.from_residual-in_err-check_run.ensures.1 in
    rw (exit.1, exit.2) record {
      settled = inr (not_done s c.draw.new.self after says lasts (omega (arith, c.width.ensures, c.in_err-check_run.ensures.past)));
      fails = says_failed _ 20 c.args.i says ∙ ap not lasts;
      planned = after;
    }

pub returns : goal.returns
returns c =
    let s = c.args.self.now in
    let xs = s.current.now in
    let ys = s.sure.now in
    let lasts = c.in_ok-draw.ensures.lasts s.pattern in
    let after = c.draw.ensures.after s.pattern in
    let fits : c.args.i + c.args.c ≤ shorter xs ys = omega (arith, shorter_long xs ys, c.width.ensures, c.in_ok-check_run.ensures.within) in
    record {
      settled = done s c.draw.new.self after xs c.copy_run.new.to lasts (omega (arith, shorter_long xs ys))
          (copied (plan_of s) (plan c.draw.new.self s.pattern) xs ys c.copy_run.new.to c.args.i c.args.c fits c.copy_run.ensures);
      fails = ap not lasts;
      planned = after;
    }
