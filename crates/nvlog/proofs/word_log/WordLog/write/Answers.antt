use Rattle.std.proofs.Common.{◌≡◌, true, false, length, Err, vec_items, vec_len, sym, ap, ◌∙◌, arith}
use Rattle.std.proofs.lemmas.Bool.{eqb-true, cond-false}
use Rattle.nvlog.specs.States.{state_in, state_of}
use Rattle.nvlog.proofs.Laying.{asked_nothing, asked_too_much, written_declined, written_refused, written_laid}
use Rattle.nvlog.proofs.Naming.{names_wide, row_seen}
use Rattle.nvlog.proofs.word_log.WordLog.write.Goals as goal

pub returns-then-not-is_named : goal.returns-then-not-is_named
returns-then-not-is_named c =
    let log = c.args.self.now in
    let s = state_of log in
    let read = c.in_ok-names.ensures (names_wide s log.fit) in
    let unnamed = row_seen s c.in_ok-names.names c.args.row false log.fit read.0 c.if-not-is_named.ensures in
    written_refused s _ c.args.row c.args.offset c.args.bytes.now c.declines.result c.into.result c.into.ensures (cond-false _ _ _ unnamed ∙ ap (λ t. Err t) (sym c.declines.ensures)) (ap (λ m. state_in log.circle m.current) read.1)

pub returns-in_err-pieces : goal.returns-in_err-pieces
returns-in_err-pieces c =
    let log = c.args.self.now in
    let s = state_of log in
    let read = c.in_ok-names.ensures (names_wide s log.fit) in
    let named = row_seen s c.in_ok-names.names c.args.row true log.fit read.0 c.if-not-is_named.ensures in
    written_declined s _ c.args.row c.args.offset c.args.bytes.now c.in_err-pieces.field-0.0 c.from_residual-in_err-pieces.result named (ap (λ m. state_in log.circle m.current) read.1)
    c.in_err-pieces.ensures c.from_residual-in_err-pieces.ensures.1

pub returns-then-is_empty : goal.returns-then-is_empty
returns-then-is_empty c =
    let log = c.args.self.now in
    let s = state_of log in
    let read = c.in_ok-names.ensures (names_wide s log.fit) in
    let named = row_seen s c.in_ok-names.names c.args.row true log.fit read.0 c.if-not-is_named.ensures in
    let v = c.in_ok-pieces.pieces in
    let none : length (vec_items v) ≡ 0 = sym v.ok.0 ∙ eqb-true (vec_len v) 0 (sym c.if-is_empty.ensures) in
    let told = asked_nothing s c.args.row c.args.offset c.args.bytes.now (vec_items v) named c.in_ok-pieces.ensures none in
    (told.0, told.1, ap (λ m. state_in log.circle m.current) read.1)

pub returns-then-len-free : goal.returns-then-len-free
returns-then-len-free c =
    let log = c.args.self.now in
    let s = state_of log in
    let read = c.in_ok-names.ensures (names_wide s log.fit) in
    let named = row_seen s c.in_ok-names.names c.args.row true log.fit read.0 c.if-not-is_named.ensures in
    let v = c.in_ok-pieces.pieces in
    let few = asked_too_much s c.args.row c.args.offset c.args.bytes.now (vec_items v) named c.in_ok-pieces.ensures c.free-free.result (omega (arith, c.free-free.ensures)) (omega (arith, v.ok.0, c.if-len-free.true, c.len.ensures)) in
    let fault = c.declines-then-len-free in
    let into = c.into-then-len-free in
    written_refused s _ c.args.row c.args.offset c.args.bytes.now fault.result into.result into.ensures (few ∙ ap (λ t. Err t) (sym fault.ensures)) (ap (λ m. state_in log.circle m.current) read.1)

pub returns : goal.returns
returns c =
    let log = c.args.self.now in
    let s = state_of log in
    let read = c.in_ok-names.ensures (names_wide s log.fit) in
    let named = row_seen s c.in_ok-names.names c.args.row true log.fit read.0 c.if-not-is_named.ensures in
    let v = c.in_ok-pieces.pieces in
    written_laid s c.args.row c.args.offset c.args.bytes.now (vec_items v) named c.in_ok-pieces.ensures
    _ _ c.as_slice.result.now c.in_ok-laid.laid (ap (λ m. state_in log.circle m.current) read.1) c.as_slice.ensures.value (omega (arith, v.ok.0, c.if-len-free.false, c.len.ensures, c.free-free.ensures)) c.in_ok-laid.ensures
