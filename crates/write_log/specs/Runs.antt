-- What is done with a run of a module's words, by the answer. m is the module before the call and m' after it.
use Rattle.std.specs.Prelude.{◌≡◌, ℕ, ◌+◌, ◌<◌, ◌≤◌, false, ◌⊎◌, List, length, take, drop, replicate, Ok, Err, Result}
use Rattle.std.proofs.Math.Seq.{paste}
use Rattle.device.specs.ModuleCalls.{Kept}
use Rattle.device.specs.Numbers.{number_of, layer_of, refusal, answer}
use Rattle.device.specs.Words.{Words, width, word, resting}
use Rattle.device.specs.declared.Fault.{Fault}

-- power failed: the module is dark, and the refusal says so
pub record Dark (m : Words) (e : Fault) : Type 0 where
  pub dark : m.lit ≡ false
  pub number : number_of e.refusal ≡ 22
  pub layer : layer_of e.layer ≡ 2

-- word k of xs is W's or X's
abbrev pub OneOf : List ℕ → List ℕ → List ℕ → ℕ → Type 0
OneOf W X xs k = (word xs k ≡ word W k) ⊎ (word xs k ≡ word X k)

-- power failed on the way from the words W to the words X: each word that will be found is W's or X's
pub record Cut (W X : List ℕ) (m : Words) (e : Fault) : Type 0 where
  pub failed : Dark m e
  pub long : length m.found ≡ length W
  pub between : (k : ℕ) → OneOf W X m.found k

-- the module rests with the words X, or power failed on the way from W to X
abbrev pub Moves : List ℕ → List ℕ → Words → Result Unit Fault → Type 0
Moves W X m' (Ok u) = m' ≡ resting X
Moves W X m' (Err e) = Cut W X m' e

-- A module that rests, and a run that has room: the run stands from `start` on, and no other word changes. After a power failure a word of
-- the run is found as it was or as it should be, and any other as it was.
abbrev pub RunPut : Words → ℕ → List ℕ → Words → Result Unit Fault → Type 0
RunPut m start run m' r = (W : List ℕ) → m ≡ resting W → start + length run ≤ length W → Moves W (paste W start run (length run)) m' r

-- a module that rests: every word is 0
abbrev pub AllCleared : Words → Words → Result Unit Fault → Type 0
AllCleared m m' r = (W : List ℕ) → m ≡ resting W → Moves W (replicate (length W) 0) m' r

-- as many current words as `out` has are read from `start` on, or power fails after some; no word of the module changes
abbrev pub Read : Words → ℕ → List ℕ → List ℕ → Words → Result Unit Fault → Type 0
Read m start out out' m' (Ok u) = (m'.lit ≡ m.lit) × Kept m m' × (out' ≡ take (length out) (drop start m.current))
Read m start out out' m' (Err e) = Dark m' e × Kept m m' × ((k : ℕ) → OneOf out (drop start m.current) out' k)

-- any module, and a run that has room
abbrev pub RunLoaded : Words → ℕ → List ℕ → List ℕ → Words → Result Unit Fault → Type 0
RunLoaded m start out out' m' r = start + length out ≤ width m → Read m start out out' m' r

-- a run of n words that passes the end is declined, and nothing changes
abbrev pub NoRoom : Words → ℕ → ℕ → Words → Result Unit Fault → Type 0
NoRoom m start n m' r = width m < start + n → (answer r ≡ Err (refusal 20 2 start)) × (m' ≡ m)
