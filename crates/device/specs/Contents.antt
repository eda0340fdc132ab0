-- Contents of files: lists of bytes. A byte at or past the end counts as 0.
use Rattle.std.specs.Prelude.{ℕ, ◌+◌, ◌-◌, max, Bool, cond, ◌&&◌, List, map, length, ◌==◌, nat_le, nat_lt, slice_index}
use Rattle.std.specs.List.{range_with_len}

abbrev pub byte : List ℕ → ℕ → ℕ
byte xs i = slice_index xs i

-- the n bytes from a position on
unfoldable pub part : List ℕ → ℕ → ℕ → List ℕ
part xs at n = map (λ i. byte xs (at + i)) (range_with_len 0 n)

-- position i is one of the n from a position on
abbrev pub inside : ℕ → ℕ → ℕ → Bool
inside at n i = nat_le at i && nat_lt i (at + n)

-- the size of a file of s bytes after a write of n bytes: it reaches to the end of the bytes written, if there are any
abbrev pub size_after : ℕ → ℕ → ℕ → ℕ
size_after s at n = cond (n == 0) s (max s (at + n))

-- what stands at position i after a write of ds: a byte written, else the byte that stood there; in a gap that is a 0
abbrev pub byte_after : List ℕ → ℕ → List ℕ → ℕ → ℕ
byte_after xs at ds i = cond (inside at (length ds) i) (byte ds (i - at)) (byte xs i)

-- the content after a write of ds
unfoldable pub written : List ℕ → ℕ → List ℕ → List ℕ
written xs at ds = map (byte_after xs at ds) (range_with_len 0 (size_after (length xs) at (length ds)))
