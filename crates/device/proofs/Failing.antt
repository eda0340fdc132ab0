-- What a power failure leaves.
use Rattle.std.proofs.Common.{ℕ, ◌⊎◌, inl, ⊎_elim}
use Rattle.device.specs.ModuleCalls.{Failed, Kept}
use Rattle.device.specs.Words.{Words}
use Rattle.device.specs.declared.Fault.{Fault}

-- the words before the call, or those after it
pub failed_words : {m m' : Words} {e : Fault} {i : ℕ} {Effect : Type 0} → Failed m m' e i Effect → Kept m m' ⊎ Effect
failed_words f = ⊎_elim (λ d. inl d.kept) (λ p. p.words) f.cause
