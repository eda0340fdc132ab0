-- What a staged module answers in a store or settle, by what power does in it: for any plans and any words.
use Rattle.std.proofs.Common.{◌≡◌, ℕ, true, false, not, List, sym, refl, ap, ◌∙◌, inl, inr, ⊎_elim}
use Rattle.std.proofs.lemmas.Bool.{cases_Bool, and_parts}
use Rattle.device.specs.Numbers.{Says}
use Rattle.device.specs.ModuleCalls.{Failed, Declined, Done}
use Rattle.device.specs.declared.Fault.{Fault}
use Rattle.memory.specs.Plans.{Plan, used_up, lasts, drawn}
use Rattle.memory.specs.Meanings.{staged}

-- power that lasts was on
pub was_on : (p : Plan) → true ≡ lasts p → p.on ≡ true
was_on p l = (and_parts p.on (not (used_up p.left)) (sym l)).0

-- a store or settle, by what power does in it
module _ (p p' : Plan) (xs ys : List ℕ) (after : p' ≡ drawn p) where
  pub on_after : p'.on ≡ lasts p
  on_after = ap (λ q. q.on) after

  -- it fails, or had failed before
  pub no_power : (e : Fault) (i : ℕ) (Effect : Type 0) → Says e 22 2 i → false ≡ lasts p → Failed (staged p xs ys) (staged p' xs ys) e i Effect
  no_power e i Effect says l = record {
    says = says;
    dark = on_after ∙ sym l;
    cause = ⊎_elim (λ on. inr record { lit = on; words = inl record { current = refl; sure = refl } }) (λ was. inl record { dark = was; kept = record { current = refl; sure = refl } }) (cases_Bool p.on);
  }

  -- it lasts, and the call is declined
  pub not_done : (e : Fault) (n i : ℕ) (Reason : Type 0) → Says e n 2 i → true ≡ lasts p → Reason → Declined (staged p xs ys) (staged p' xs ys) e n i Reason
  not_done e n i Reason says l why = record { lit = was_on p l; lit_after = on_after ∙ sym l; reason = why; says = says; kept = record { current = refl; sure = refl } }

  -- it lasts, and the call is done, whatever the slices then hold
  pub done : (xs' ys' : List ℕ) (Asked Effect : Type 0) → true ≡ lasts p → Asked → Effect → Done (staged p xs ys) (staged p' xs' ys') Asked Effect
  done xs' ys' Asked Effect l asked effect = record { lit = was_on p l; lit_after = on_after ∙ sym l; asked = asked; effect = effect }
