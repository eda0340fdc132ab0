-- What an answer that a definition chose by a test tells of the test.
use Rattle.std.proofs.Common.{◌≡◌, ℕ, Bool, true, false, cond, Some, None, Ok, Err, refl, arith}

pub cond_some : {X : Type 0} (t : Bool) (x y : X) → Some x ≡ cond t (Some y) None → (t ≡ true) × (x ≡ y)
cond_some true x y h = (refl, cc)
cond_some false x y h = let z : ◌≡◌ {A = ℕ} 0 1 = cc in absurd (omega arith)

pub cond_none : {X : Type 0} (t : Bool) (y : X) → None ≡ cond t (Some y) None → t ≡ false
cond_none true y h = let z : ◌≡◌ {A = ℕ} 0 1 = cc in absurd (omega arith)
cond_none false y h = refl

pub cond_ok : {X E : Type 0} (t : Bool) (x y : X) (e : E) → Ok x ≡ cond t (Ok y) (Err e) → (t ≡ true) × (x ≡ y)
cond_ok true x y e h = (refl, cc)
cond_ok false x y e h = let z : ◌≡◌ {A = ℕ} 0 1 = cc in absurd (omega arith)

pub cond_err : {X E : Type 0} (t : Bool) (y : X) (d e : E) → Err d ≡ cond t (Ok y) (Err e) → t ≡ false
cond_err true y d e h = let z : ◌≡◌ {A = ℕ} 0 1 = cc in absurd (omega arith)
cond_err false y d e h = refl
