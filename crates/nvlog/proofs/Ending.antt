-- How a call on a module that rests ends.
use Rattle.std.proofs.Common.{◌≡◌, ℕ, cond, List, IsErrAnd, Ok, Err, Result, sym, ap, ◌∙◌, subst, arith}
use Rattle.device.specs.Words.{Words, resting}
use Rattle.device.specs.declared.Fault.{Fault}
use Rattle.write_log.specs.Runs.{Dark}
use Rattle.nvlog.specs.Writes.{Ends}

pub rests_as : (X Y : List ℕ) (m : Words) → m ≡ resting X → X ≡ Y → m ≡ resting Y
rests_as X Y m rest same = rest ∙ ap resting same

-- the exit of a `?`
pub ends_exit : (X : List ℕ) (m : Words) (e : Fault) (r : Result Unit Fault) → IsErrAnd r (λ y. y ≡ e) → Dark m e → Ends X m r
ends_exit X m e (Ok u) by dark = absurd by
ends_exit X m e (Err y) by dark = subst (λ z. Dark m z) (sym by) dark

-- a module that rests is not dark
pub not_dark : {A : Type 0} (W : List ℕ) (e : Fault) → Dark (resting W) e → A
not_dark W e out = let impossible : ◌≡◌ {A = ℕ} 1 0 = ap (λ b. cond b 1 0) out.dark in absurd (omega arith)
