-- When a staged module loses its power, and what is then found. A life goes from one restart to the next, and allows a count of stores and
-- settles before one fails, undone.
use Rattle.std.specs.Prelude.{ℕ, ◌-◌, ◌/◌, ◌%◌, ◌^◌, Bool, true, false, cond, not, ◌&&◌, List, [], ◌∷◌, map, length, drop, Ok, Err, Result, ◌==◌}
use Rattle.std.specs.List.{range_with_len}
use Rattle.device.specs.Numbers.{number_of}
use Rattle.device.specs.Words.{word}
use Rattle.device.specs.declared.Fault.{Fault}

-- whether power is on; how many more stores and settles this life and each of those after it allow, a life past the list having no cut;
-- and the pattern, which says what is found
pub record Plan : Type 0 where
  pub on : Bool
  pub left : List ℕ
  pub pattern : ℕ

-- this life allows no more
abbrev pub used_up : List ℕ → Bool
used_up [] = false
used_up (k ∷ ks) = k == 0

-- one store or settle less in this life
abbrev pub one_less : List ℕ → List ℕ
one_less [] = []
one_less (k ∷ ks) = (k - 1) ∷ ks

-- power lasts through the next store or settle
abbrev pub lasts : Plan → Bool
lasts p = p.on && not (used_up p.left)

-- the plan after a store or settle
abbrev pub drawn : Plan → Plan
drawn p = record { on = lasts p; left = cond (lasts p) (one_less p.left) p.left; pattern = p.pattern }

-- the plan after a restart: the next life begins
abbrev pub renewed : Plan → Plan
renewed p = record { on = true; left = drop 1 p.left; pattern = p.pattern }

-- the answer says that power failed
abbrev pub failed : {X : Type 0} → Result X Fault → Bool
failed (Ok x) = false
failed (Err e) = number_of e.refusal == 22

-- bit i mod 64 of a pattern is 1
abbrev pub bit_set : ℕ → ℕ → Bool
bit_set p i = p / 2 ^ (i % 64) % 2 == 1

-- the current value of word i is found where the pattern has a 1, else the sure one
abbrev pub found_at : ℕ → List ℕ → List ℕ → ℕ → ℕ
found_at p current sure i = cond (bit_set p i) (word current i) (word sure i)

abbrev pub found_words : ℕ → List ℕ → List ℕ → List ℕ
found_words p current sure = map (found_at p current sure) (range_with_len 0 (length current))
