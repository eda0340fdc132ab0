-- Paths of files: 1 to 32 bytes, none of them zero.
use Rattle.std.specs.Prelude.{ℕ, Bool, true, not, ◌&&◌, List, [], ◌∷◌, length, ◌==◌, nat_le}

abbrev pub Path : Type 0
Path = List ℕ

abbrev pub no_zero : List ℕ → Bool
no_zero [] = true
no_zero (b ∷ bs) = not (b == 0) && no_zero bs

abbrev pub path_fits : Path → Bool
path_fits path = nat_le 1 (length path) && (nat_le (length path) 32 && no_zero path)
