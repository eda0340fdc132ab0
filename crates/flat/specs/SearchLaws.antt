-- What the first place is at which a test holds, and how many there are.
use Rattle.std.specs.Prelude.{◌≡◌, ℕ, zero, suc, ◌+◌, ◌<◌, ◌≤◌, Bool, true, false, ◌⊎◌, Some, None, ◌≢◌, refl}
use Rattle.std.proofs.Common.{sym, subst, inl, inr, ⊎_elim, arith}
use Rattle.std.proofs.lemmas.Bool.{cases_Bool, cases_eq}
use Rattle.std.proofs.lemmas.Grind.{common_steps}
use Rattle.flat.specs.Searches.{first, how_many}

-- the test holds at no place below n
abbrev pub Nowhere : (ℕ → Bool) → ℕ → Type 0
Nowhere P n = (k : ℕ) → k < n → P k ≡ false

-- r is the first place below n
pub record Found (P : ℕ → Bool) (n r : ℕ) : Type 0 where
  pub low : r < n
  pub here : P r ≡ true
  pub before : Nowhere P r

pub first_none : (P : ℕ → Bool) (n : ℕ) → Nowhere P n → first P n ≡ None
unfolding first
first_none P zero h = refl
first_none P (suc n) h = grind (arith, common_steps, first_none P n (λ k l. h k (omega arith)), h n (omega arith))

pub first_is : (P : ℕ → Bool) (n r : ℕ) → Found P n r → first P n ≡ Some r
unfolding first
first_is P zero r f = absurd (omega (arith, f.low))
first_is P (suc n) r f =
    ⊎_elim
    (λ e. grind (arith, common_steps, first_none P r f.before, f.here))
    (λ ne. grind (arith, common_steps, first_is P n r (record { low = omega (arith, f.low); here = f.here; before = f.before })))
    (cases_eq r n)

-- there is a first place, or there is none
pub search_below : (P : ℕ → Bool) (n : ℕ) → ((r : ℕ) × Found P n r) ⊎ Nowhere P n
search_below P zero = inr (λ k l. absurd (omega arith))
search_below P (suc n) =
    ⊎_elim
    (λ f. inl (f.0, record { low = omega (arith, f.1.low); here = f.1.here; before = f.1.before }))
    (λ none. ⊎_elim (λ e. inl (n, record { low = omega arith; here = e; before = none })) (λ e. inr (λ k l. grind (arith, none))) (cases_Bool (P n)))
    (search_below P n)

pub found_by_first : (P : ℕ → Bool) (n r : ℕ) → first P n ≡ Some r → Found P n r
found_by_first P n r e =
    ⊎_elim
    (λ f. let is : f.0 ≡ r = cc (first_is P n f.0 f.1) in subst (Found P n) is f.1)
    (λ none. cc (first_none P n none))
    (search_below P n)

pub nowhere_by_first : (P : ℕ → Bool) (n : ℕ) → first P n ≡ None → Nowhere P n
nowhere_by_first P n e = ⊎_elim (λ f. cc (first_is P n f.0 f.1)) (λ none. none) (search_below P n)

-- the only place below n is the first
pub first_only : (P : ℕ → Bool) (n r : ℕ) → r < n → P r ≡ true → ((k : ℕ) → k < n → P k ≡ true → k ≡ r) → first P n ≡ Some r
first_only P n r l e only = first_is P n r (record { low = l; here = e; before = λ k h. grind (arith, only k) })

pub first_same : (P Q : ℕ → Bool) (n : ℕ) → ((k : ℕ) → k < n → P k ≡ Q k) → first P n ≡ first Q n
unfolding first
first_same P Q zero h = refl
first_same P Q (suc n) h = rw (first_same P Q n (λ k l. h k (omega arith)), h n (omega arith)) refl

pub how_many_same : (P Q : ℕ → Bool) (n : ℕ) → ((k : ℕ) → k < n → P k ≡ Q k) → how_many P n ≡ how_many Q n
unfolding how_many
how_many_same P Q zero h = refl
how_many_same P Q (suc n) h = rw (how_many_same P Q n (λ k l. h k (omega arith)), h n (omega arith)) refl

-- one place more
pub how_many_more : (P Q : ℕ → Bool) (n r : ℕ) → r < n → P r ≡ false → Q r ≡ true → ((k : ℕ) → k < n → (k ≢ r) → Q k ≡ P k) → how_many Q n ≡ how_many P n + 1
unfolding how_many
how_many_more P Q zero r l e f h = absurd (omega arith)
how_many_more P Q (suc n) r l e f h =
    ⊎_elim
    (λ is. grind (arith, common_steps, how_many_same Q P r (λ k b. h k (omega arith) (omega arith))))
    (λ ne. grind (arith, common_steps, how_many_more P Q n r (omega arith) e f (λ k b. h k (omega arith)), h n (omega arith) (λ z. ne (sym z))))
    (cases_eq r n)

pub how_many_few : (P : ℕ → Bool) (n : ℕ) → how_many P n ≤ n
unfolding how_many
how_many_few P zero = omega arith
how_many_few P (suc n) = grind (arith, common_steps, how_many_few P n)

pub how_many_all : (P : ℕ → Bool) (n : ℕ) → ((k : ℕ) → k < n → P k ≡ true) → how_many P n ≡ n
unfolding how_many
how_many_all P zero h = refl
how_many_all P (suc n) h = grind (arith, common_steps, how_many_all P n (λ k l. h k (omega arith)), h n (omega arith))

pub how_many_none : (P : ℕ → Bool) (n : ℕ) → Nowhere P n → how_many P n ≡ 0
unfolding how_many
how_many_none P zero h = refl
how_many_none P (suc n) h = grind (arith, common_steps, how_many_none P n (λ k l. h k (omega arith)), h n (omega arith))
