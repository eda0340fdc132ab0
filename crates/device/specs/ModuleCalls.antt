-- What each call of a module does, by its answer. m is the module before the call and m' after it. A load, store or settle that does not
-- do what it is asked answers a refusal of layer 2, the module's, whose place is the word that the call was given. It asks its questions
-- in this order: has power failed (22), is a word past the end (20), is a word that is to be stored unsettled (21).
use Rattle.std.specs.Prelude.{◌≡◌, ℕ, ◌+◌, ◌<◌, ◌≤◌, true, false, ◌⊎◌, drop, Ok, Err, Result, slice_set}
use Rattle.std.proofs.Math.Seq.{paste}
use Rattle.device.specs.Numbers.{Says}
use Rattle.device.specs.Words.{Words, width, word, resting}
use Rattle.device.specs.declared.Fault.{Fault}

-- no current and no sure value changes
pub record Kept (m m' : Words) : Type 0 where
  pub current : m'.current ≡ m.current
  pub sure : m'.sure ≡ m.sure

-- A choice that is left to the device: whether a stored word is sure at once, or keeps its sure value until it is settled.
abbrev pub SureChoice : Words → ℕ → ℕ → Words → Type 0
SureChoice m i v m' = (m'.sure ≡ m.sure) ⊎ (m'.sure ≡ slice_set m.sure i v)

-- v is the current value of word i, and no other current value changes; no sure value changes but that of word i, by choice
pub record Put (m : Words) (i v : ℕ) (m' : Words) : Type 0 where
  pub current : m'.current ≡ slice_set m.current i v
  pub sure : SureChoice m i v m'

-- the current values of the c words from i on are sure; no current value and no other sure value changes
pub record Firm (m : Words) (i c : ℕ) (m' : Words) : Type 0 where
  pub current : m'.current ≡ m.current
  pub sure : m'.sure ≡ paste m.sure i (drop i m.current) c

-- word i is settled: its current value is sure
abbrev pub IsSettled : Words → ℕ → Type 0
IsSettled m i = word m.current i ≡ word m.sure i

-- the call was asked for what can be done, and did it; the module is lit
pub record Done (m m' : Words) (Asked Effect : Type 0) : Type 0 where
  pub lit : m.lit ≡ true
  pub lit_after : m'.lit ≡ true
  pub asked : Asked
  pub effect : Effect

-- the call is declined by number n at word i for a reason, and nothing changes; the module is lit
pub record Declined (m m' : Words) (e : Fault) (n i : ℕ) (Reason : Type 0) : Type 0 where
  pub lit : m.lit ≡ true
  pub lit_after : m'.lit ≡ true
  pub reason : Reason
  pub says : Says e n 2 i
  pub kept : Kept m m'

-- the module was dark before the call, which changes nothing
pub record WasDark (m m' : Words) : Type 0 where
  pub dark : m.lit ≡ false
  pub kept : Kept m m'

-- A choice that is left to the device: in any load, store or settle on a lit module the power may fail. The words are then those before
-- the call, or those after all that it does.
pub record PowerFails (m m' : Words) (Effect : Type 0) : Type 0 where
  pub lit : m.lit ≡ true
  pub words : Kept m m' ⊎ Effect

-- the call is declined by number 22, and the module is dark
pub record Failed (m m' : Words) (e : Fault) (i : ℕ) (Effect : Type 0) : Type 0 where
  pub says : Says e 22 2 i
  pub dark : m'.lit ≡ false
  pub cause : WasDark m m' ⊎ PowerFails m m' Effect

-- load(i) answers the current value of word i
abbrev pub Loaded : Words → ℕ → Words → Result ℕ Fault → Type 0
Loaded m i m' (Ok v) = Done m m' (i < width m) ((v ≡ word m.current i) × Kept m m')
Loaded m i m' (Err e) = Failed m m' e i (Kept m m') ⊎ Declined m m' e 20 i (width m ≤ i)

-- store(i, v) makes v the current value of word i
abbrev pub Stored : Words → ℕ → ℕ → Words → Result Unit Fault → Type 0
Stored m i v m' (Ok u) = Done m m' ((i < width m) × IsSettled m i) (Put m i v m')
Stored m i v m' (Err e) =
    Failed m m' e i ((i < width m) × IsSettled m i × Put m i v m')
    ⊎ (Declined m m' e 20 i (width m ≤ i) ⊎ Declined m m' e 21 i ((i < width m) × (IsSettled m i → ⊥)))

-- settle(i, c) makes the current values of the c words from i on sure
abbrev pub Settled : Words → ℕ → ℕ → Words → Result Unit Fault → Type 0
Settled m i c m' (Ok u) = Done m m' (i + c ≤ width m) (Firm m i c m')
Settled m i c m' (Err e) = Failed m m' e i ((i + c ≤ width m) × Firm m i c m') ⊎ Declined m m' e 20 i (width m < i + c)

-- restart makes every found value current and sure, and the module lit
abbrev pub Restarted : Words → Words → Type 0
Restarted m m' = m' ≡ resting m.found
