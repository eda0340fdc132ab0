-- What a module means: a memory of words that may lose its power. It is lit or dark, and each word has three values: the current one,
-- which a load answers; the sure one, which a power failure leaves, if it does not leave the current one; and the found one, which the
-- next restart will find.
use Rattle.std.specs.Prelude.{◌≡◌, ℕ, Bool, true, ◌⊎◌, List, length, slice_index}

pub record Words : Type 0 where
  pub lit : Bool
  pub current : List ℕ
  pub sure : List ℕ
  pub found : List ℕ

-- how many words there are
abbrev pub width : Words → ℕ
width m = length m.current

-- word i of a list; past the end it counts as 0
abbrev pub word : List ℕ → ℕ → ℕ
word ws i = slice_index ws i

-- A choice that is left to the device: which value of word i is found. It is the current or the sure one, and it may be another one
-- after each call.
abbrev pub FoundChoice : Words → ℕ → Type 0
FoundChoice m i = (word m.found i ≡ word m.current i) ⊎ (word m.found i ≡ word m.sure i)

-- what holds of every module at any time
pub record Sound (m : Words) : Type 0 where
  pub sures : length m.sure ≡ width m
  pub founds : length m.found ≡ width m
  pub chosen : (i : ℕ) → FoundChoice m i

-- a lit module in which each of a word's values is that of W
abbrev pub resting : List ℕ → Words
resting W = record { lit = true; current = W; sure = W; found = W }
