-- Bytes in 64-bit words, eight to a word, the low byte first.
use Rattle.std.specs.Prelude.{ℕ, ◌+◌, ◌*◌, ◌/◌, ◌%◌, ◌^◌, ◌<◌, List, [], ◌∷◌, map, take, drop, slice_index}
use Rattle.std.specs.List.{range_with_len}

-- bytes as one number, the low byte first
abbrev pub low_first : List ℕ → ℕ
low_first [] = 0
low_first (b ∷ bs) = b + 256 * low_first bs

-- word j of the packed bytes; a byte past the last one counts as 0
abbrev pub packed_word : List ℕ → ℕ → ℕ
packed_word bs j = low_first (take 8 (drop (8 * j) bs))

-- the bytes in n words
unfoldable pub packed : ℕ → List ℕ → List ℕ
packed n bs = map (packed_word bs) (range_with_len 0 n)

-- byte i of packed words
abbrev pub byte_in : List ℕ → ℕ → ℕ
byte_in ws i = slice_index ws (i / 8) / 2 ^ (8 * (i % 8)) % 256

-- the first n bytes of packed words
unfoldable pub unpacked : ℕ → List ℕ → List ℕ
unpacked n ws = map (byte_in ws) (range_with_len 0 n)

-- every number in the list is a byte
abbrev pub Bytes : List ℕ → Type 0
Bytes bs = (i : ℕ) → slice_index bs i < 256
