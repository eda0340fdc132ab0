-- The counts of this life and those after it, in the counts of all four.
use Rattle.std.proofs.Common.{◌≡◌, ℕ, zero, suc, ◌-◌, ◌<◌, Bool, true, false, cond, not, ◌&&◌, eqb, List, [], ◌∷◌, length, get_or, drop, set, sym, refl, ap, ◌∙◌, arith, drop-cons}
use Rattle.memory.specs.Plans.{Plan, used_up, one_less, lasts, drawn}

-- whether this life's count is spent
pub used_up_at : (ks : List ℕ) (life : ℕ) → life < length ks → used_up (drop life ks) ≡ eqb (get_or ks life 0) 0
used_up_at ks life h = ap used_up (drop-cons ks life 0 h)

-- one less in this life
pub one_less_at : (ks : List ℕ) (life : ℕ) → life < length ks → drop life (set ks life (get_or ks life 0 - 1)) ≡ one_less (drop life ks)
one_less_at [] life h = absurd (omega arith)
one_less_at (k ∷ ks) zero h = refl
one_less_at (k ∷ ks) (suc n) h = one_less_at ks n (omega arith)

-- whether power lasts, where it is on
pub lasts_on : (q : Plan) (spent : Bool) → q.on ≡ true → used_up q.left ≡ spent → not spent ≡ lasts q
lasts_on q spent on u = sym (ap (λ x. x && not (used_up q.left)) on ∙ ap not u)

-- the plan after a store or settle through which power lasts
pub goes_on : (q : Plan) (left : List ℕ) → q.on ≡ true → true ≡ lasts q → left ≡ one_less q.left → record { on = q.on; left = left; pattern = q.pattern } ≡ drawn q
goes_on q left on l e = λ i. record { on = (on ∙ l) i; left = (e ∙ ap (λ x. cond x (one_less q.left) q.left) l) i; pattern = q.pattern }

-- and after one in which it fails
pub stops : (q : Plan) → false ≡ lasts q → record { on = false; left = q.left; pattern = q.pattern } ≡ drawn q
stops q l = λ i. record { on = l i; left = ap (λ x. cond x (one_less q.left) q.left) l i; pattern = q.pattern }

-- a plan with other counts left
pub renewed_left : (left left' : List ℕ) (p : ℕ) → left ≡ left' → ◌≡◌ {A = Plan} (record { on = true; left = left; pattern = p }) (record { on = true; left = left'; pattern = p })
renewed_left left left' p e = λ i. record { on = true; left = e i; pattern = p }
