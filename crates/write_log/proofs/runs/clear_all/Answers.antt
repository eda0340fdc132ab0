use Rattle.std.proofs.Common.{◌≡◌, length, ap, ◌∙◌, arith}
use Rattle.std.proofs.lemmas.Result.{err_from_is_err_and}
use Rattle.device.specs.Words.{width}
use Rattle.write_log.proofs.Storing.{clear_more, clear_cut, clear_moves}
use Rattle.write_log.proofs.runs.clear_all.Goals as goal

pub loop-i-preserved : goal.loop-i-preserved
loop-i-preserved g c = λ W rest.
    let all : c.width-width.result ≡ length W = c.width-width.ensures ∙ ap width rest in
    clear_more W (g.M.Module.meaning c.loop-i.memory) (g.M.Module.meaning c.store.new.self) c.loop-i.i
    (c.loop-i.invariant W rest) (omega (arith, c.loop-i-test.true)) c.in_ok-store.field-0 c.in_ok-store.ensures

pub returns-in_err-store : goal.returns-in_err-store
returns-in_err-store g c = λ W rest.
    let m' = g.M.Module.meaning c.store.new.self in
    let all : c.width-width.result ≡ length W = c.width-width.ensures ∙ ap width rest in
    let exit = err_from_is_err_and c.from_residual.result c.from_residual.ensures.1 in
    rw (exit.1, exit.2) (clear_cut W (g.M.Module.meaning c.loop-i.memory) m' c.loop-i.i (c.loop-i.invariant W rest) (omega (arith, c.loop-i-test.true)) (g.M.Module.sound c.store.new.self)
    c.in_err-store.field-0.0 c.in_err-store.ensures)

pub returns : goal.returns
returns g c = λ W rest.
    let last = c.settle.new.self in
    let all : c.width-width.result ≡ length W = c.width-width.ensures ∙ ap width rest in
    clear_moves W (g.M.Module.meaning c.loop-i.memory) (g.M.Module.meaning last) c.loop-i.i c.width-width.result (omega (arith, all)) all
    (c.loop-i.invariant W rest) (g.M.Module.sound last) c.settle.result c.settle.ensures
