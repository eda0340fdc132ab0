-- Rows of names: five words, the path's length and 32 path bytes, filled up with zeros. A free row has length 0.
use Rattle.std.specs.Prelude.{◌≡◌, ℕ, ◌-◌, cond, ◌&&◌, List, ◌∷◌, ◌++◌, length, drop, replicate, Some, None, Ok, Err, Option, Result, slice_index}
use Rattle.std.specs.Str.{bytes_eq}
use Rattle.device.specs.declared.Fault.{Fault}
use Rattle.device.specs.Numbers.{Told, refusal, Says}
use Rattle.device.specs.Paths.{path_fits}
use Rattle.layout.specs.declared.fronts.Front.{Front}
use Rattle.layout.specs.Packing.{packed, unpacked}

unfoldable pub row_words : List ℕ → List ℕ
row_words path = length path ∷ packed 4 path

abbrev pub row_of : List ℕ → Result (List ℕ) Told
row_of path = cond (path_fits path) (Ok (row_words path)) (Err (refusal 4 0 0))

-- what words say, be they fit or not
abbrev pub said_path : List ℕ → List ℕ
said_path ws = unpacked (slice_index ws 0) (drop 1 ws)

-- words are a path's where they are the row of what they say
unfoldable pub read_path : List ℕ → Option (List ℕ)
read_path ws = cond (path_fits (said_path ws) && bytes_eq ws (row_words (said_path ws))) (Some (said_path ws)) None

-- the path that the code holds, with zeros after it
pub record Holds (n : Front 32) (path : List ℕ) : Type 0 where
  pub long : n.count ≡ length path
  pub front : n.bytes ≡ path ++ replicate (32 - length path) 0

-- the code read a row as the definition does, or declines it
abbrev pub RowRead : List ℕ → ℕ → Result (Front 32) Fault → Type 0
RowRead ws r (Ok n) = (path : List ℕ) × (read_path ws ≡ Some path) × Holds n path
RowRead ws r (Err e) = (read_path ws ≡ None) × Says e 17 1 r
