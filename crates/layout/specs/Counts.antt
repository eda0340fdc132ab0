-- How many entries a log may have.
use Rattle.std.specs.Prelude.{◌≡◌, ℕ, ◌-◌, ◌^◌, min, true, false, Ok, Err, Result}
use Rattle.device.specs.declared.Fault.{Fault}
use Rattle.device.specs.Numbers.{Says}
use Rattle.layout.specs.declared.counts.EntryCount.{EntryCount}
use Rattle.layout.specs.Places.{entries_fit, width_of}

-- a number that fits is taken, any other is declined by 14; its place, the width, stops at the largest 64-bit number
abbrev pub Counted : ℕ → Result EntryCount Fault → Type 0
Counted N (Ok c) = (entries_fit N ≡ true) × (c.n ≡ N)
Counted N (Err e) = (entries_fit N ≡ false) × Says e 14 1 (min (width_of N) (2 ^ 64 - 1))
