-- Places below a number at which a test holds.
use Rattle.std.specs.Prelude.{ℕ, zero, suc, ◌+◌, Bool, cond, Some, None, Option}

abbrev pub or_else : Option ℕ → Option ℕ → Option ℕ
or_else None o = o
or_else (Some r) o = Some r

-- the first of them
unfoldable pub first : (ℕ → Bool) → ℕ → Option ℕ
first P zero = None
first P (suc n) = or_else (first P n) (cond (P n) (Some n) None)

-- how many they are
unfoldable pub how_many : (ℕ → Bool) → ℕ → ℕ
how_many P zero = 0
how_many P (suc n) = cond (P n) (how_many P n + 1) (how_many P n)
