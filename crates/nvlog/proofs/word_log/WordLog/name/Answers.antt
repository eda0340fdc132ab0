use Rattle.std.proofs.Common.{ap}
use Rattle.nvlog.specs.States.{state_in, state_of}
use Rattle.nvlog.proofs.Naming.{names_wide, named_own, named_full, named_free, row_room}
use Rattle.nvlog.proofs.word_log.WordLog.name.Goals as goal

pub returns-in-Some : goal.returns-in-Some
returns-in-Some c =
    let log = c.args.self.now in
    let wide = names_wide (state_of log) log.fit in
    let read = c.in_ok-names.ensures wide in
    named_own (state_of log) _ c.args.path.now c.in_ok-row.row c.in_ok-names.names c.in_ok-row.ensures.words read.0 wide c.in-Some.own c.in-Some.ensures (ap (λ m. state_in log.circle m.current) read.1)

pub returns-in_default-free_row : goal.returns-in_default-free_row
returns-in_default-free_row c =
    let log = c.args.self.now in
    let wide = names_wide (state_of log) log.fit in
    let read = c.in_ok-names.ensures wide in
    named_full (state_of log) _ c.args.path.now c.in_ok-row.row c.in_ok-names.names c.in_ok-row.ensures.words read.0 wide
    c.declines.result c.in_default.ensures c.in_default-free_row.ensures c.declines.ensures (ap (λ m. state_in log.circle m.current) read.1)

pub returns : goal.returns
returns c =
    let log = c.args.self.now in
    let s = state_of log in
    let names = c.in_ok-names.names in
    let row = c.in_ok-row.row in
    let wide = names_wide s log.fit in
    let read = c.in_ok-names.ensures wide in
    let free = c.in-Some-free_row in
    let put = c.in_ok-put_run.ensures.put s.words read.1 (row_room s s c.args.path.now row names c.in_ok-row.ensures.words read.0 wide free.free free.ensures.0) in
    named_free s _ c.args.path.now row names c.in_ok-row.ensures.words read.0 wide free.free c.in_default.ensures free.ensures (ap (λ m. state_in log.circle m.current) put)
