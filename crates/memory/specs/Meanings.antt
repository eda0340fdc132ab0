-- What the modules mean, drawn from what they hold.
use Rattle.std.specs.Prelude.{ℕ, min, List, length, take, drop}
use Rattle.device.specs.Words.{Words, resting}
use Rattle.memory.specs.Plans.{Plan, found_words}
use Rattle.memory.specs.declared.battery.Battery.{Battery}
use Rattle.memory.specs.declared.power.Power.{Power}
use Rattle.memory.specs.declared.staged.Staged.{Staged}

-- a battery is always lit, and every word that it holds is sure
abbrev pub battery_of : Battery → Words
battery_of b = resting b.words.now

-- as wide as the shorter of two slices
abbrev pub shorter : List ℕ → List ℕ → ℕ
shorter xs ys = min (length xs) (length ys)

abbrev pub staged : Plan → List ℕ → List ℕ → Words
staged p xs ys =
    let current = take (shorter xs ys) xs in
    let sure = take (shorter xs ys) ys in
    record { lit = p.on; current = current; sure = sure; found = found_words p.pattern current sure }

-- the counts of the lives that are over are dropped
abbrev pub plan : Power → ℕ → Plan
plan w p = record { on = w.on; left = drop w.life w.counts; pattern = p }

abbrev pub plan_of : Staged → Plan
plan_of s = plan s.power s.pattern

abbrev pub staged_of : Staged → Words
staged_of s = staged (plan_of s) s.current.now s.sure.now
