use Rattle.std.proofs.Common.{arith}
use Rattle.std.proofs.lemmas.Result.{err_from_is_err_and}
use Rattle.write_log.proofs.Storing.{run_more, run_cut, run_moves}
use Rattle.write_log.proofs.runs.put_run.Goals as goal

pub loop-i-preserved : goal.loop-i-preserved
loop-i-preserved g c = λ W rest room.
    run_more W c.args.start c.args.run.now (g.M.Module.meaning c.loop-i.memory) (g.M.Module.meaning c.store.new.self) room c.loop-i.i
    (c.loop-i.invariant W rest room) c.loop-i-test.true c.in_ok-store.field-0 c.in_ok-store.ensures

pub returns-in_err-store-clause-put : goal.returns-in_err-store-clause-put
returns-in_err-store-clause-put g c = λ W rest room.
    let exit = err_from_is_err_and c.from_residual-in_err-store.result c.from_residual-in_err-store.ensures.1 in
    rw (exit.1, exit.2) (run_cut W c.args.start c.args.run.now (g.M.Module.meaning c.loop-i.memory) (g.M.Module.meaning c.store.new.self) room c.loop-i.i
    (c.loop-i.invariant W rest room) c.loop-i-test.true (g.M.Module.sound c.store.new.self) c.in_err-store.field-0.0 c.in_err-store.ensures)

pub returns-clause-put : goal.returns-clause-put
returns-clause-put g c = λ W rest room.
    let last = c.settle.new.self in
    run_moves W c.args.start c.args.run.now (g.M.Module.meaning c.loop-i.memory) (g.M.Module.meaning last) room c.loop-i.i (omega arith)
    (c.loop-i.invariant W rest room) (g.M.Module.sound last) c.settle.result c.settle.ensures
