-- How much input is left.
use Rattle.std.specs.Prelude.{ℕ, length}
use Rattle.nvlog.specs.declared.lines.Lines.{Lines as Input}

abbrev pub left : Input → ℕ
left l = length l.rest.now
