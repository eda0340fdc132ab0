-- What a staged module answers, by its plan.
use Rattle.std.proofs.Common.{◌≡◌, ℕ, true, false, eqb, List, ap}
use Rattle.device.specs.Numbers.{number_of, Says}
use Rattle.device.specs.ModuleCalls.{Failed, Declined, Done}
use Rattle.device.specs.declared.Fault.{Fault}
use Rattle.memory.proofs.Drawn as plans
use Rattle.memory.specs.Plans.{lasts, drawn}
use Rattle.memory.specs.Meanings.{plan, plan_of, staged, staged_of}
use Rattle.memory.specs.declared.power.Power.{Power}
use Rattle.memory.specs.declared.staged.Staged.{Staged}

-- a refusal says that power failed where its number is 22
pub says_failed : (e : Fault) (n i : ℕ) → Says e n 2 i → eqb (number_of e.refusal) 22 ≡ eqb n 22
says_failed e n i says = ap (λ t. eqb t.number 22) says

-- a store or settle of the module s that leaves the power w, by what power does in it
module _ (s : Staged) (w : Power) (after : plan w s.pattern ≡ drawn (plan_of s)) where
  on_after : w.on ≡ lasts (plan_of s)
  on_after = plans.on_after (plan_of s) (plan w s.pattern) s.current.now s.sure.now after

  -- it fails, or had failed before
  pub no_power : {e : Fault} {i : ℕ} {Effect : Type 0} → Says e 22 2 i → false ≡ lasts (plan_of s) → Failed (staged_of s) (staged_of (record s { power = w })) e i Effect
  no_power {e = e} {i = i} {Effect = Effect} says l = plans.no_power (plan_of s) (plan w s.pattern) s.current.now s.sure.now after e i Effect says l

  -- it lasts, and the call is declined
  pub not_done : {e : Fault} {n i : ℕ} {Reason : Type 0} → Says e n 2 i → true ≡ lasts (plan_of s) → Reason → Declined (staged_of s) (staged_of (record s { power = w })) e n i Reason
  not_done {e = e} {n = n} {i = i} {Reason = Reason} says l why = plans.not_done (plan_of s) (plan w s.pattern) s.current.now s.sure.now after e n i Reason says l why

  -- it lasts, and the call is done, whatever the slices then hold
  pub done : (xs ys : List ℕ) {Asked Effect : Type 0} → true ≡ lasts (plan_of s) → Asked → Effect → Done (staged_of s) (staged (plan w s.pattern) xs ys) Asked Effect
  done xs ys {Asked = Asked} {Effect = Effect} l asked effect = plans.done (plan_of s) (plan w s.pattern) s.current.now s.sure.now after xs ys Asked Effect l asked effect
