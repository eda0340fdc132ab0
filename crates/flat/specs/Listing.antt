-- The names of the places at which a test holds, as a list: if no two places have one name, each is there once.
use Rattle.std.specs.Prelude.{◌≡◌, ℕ, zero, suc, ◌+◌, ◌<◌, ◌≤◌, Bool, true, false, cond, List, [], ◌∷◌, length, ◌≢◌, slice_index_or}
use Rattle.std.proofs.Math.Path.{refl}
use Rattle.std.proofs.Common.{sym, ap, ◌∙◌, ⊎_elim, arith}
use Rattle.std.proofs.Math.Numerals.{add-one}
use Rattle.std.proofs.lemmas.Bool.{cases_eq, both_ways}
use Rattle.device.specs.Paths.{Path}
use Rattle.flat.specs.Searches.{how_many}

module _ (P : ℕ → Bool) (name : ℕ → Path) where
  unfoldable pub listed : ℕ → List Path
  listed zero = []
  listed (suc n) = cond (P n) (name n ∷ listed n) (listed n)

  pub record Roll (n t : ℕ) (ns : List Path) : Type 0 where
    pub many : length ns ≡ t
    pub each : (i : ℕ) → i < t → (r : ℕ) × (r < n) × (P r ≡ true) × (slice_index_or ns i [] ≡ name r)
    pub there : (r : ℕ) → r < n → P r ≡ true → (i : ℕ) × (i < t) × (slice_index_or ns i [] ≡ name r)
    pub once : (i j : ℕ) → i < t → j < t → slice_index_or ns i [] ≡ slice_index_or ns j [] → i ≡ j

  module _ (most : ℕ) (alone : (r s : ℕ) → r < most → s < r → P r ≡ true → P s ≡ true → name s ≢ name r) where
    skip : (n t : ℕ) (ns : List Path) → P n ≡ false → Roll n t ns → Roll (suc n) t ns
    skip n t ns e o = record {
      many = o.many;
      each = λ i h. (let x = o.each i h in (x.0, omega (arith, x.1), x.2, x.3));
      there = λ r h u. o.there r (⊎_elim (λ is. absurd (both_ways (P n) e (sym (ap P is) ∙ u))) (λ ne. omega arith) (cases_eq r n)) u;
      once = o.once;
    }

    more_each : (n t : ℕ) (ns : List Path) → P n ≡ true → Roll n t ns → (i : ℕ) → i < suc t → (r : ℕ) × (r < suc n) × (P r ≡ true) × (slice_index_or (name n ∷ ns) i [] ≡ name r)
    more_each n t ns u o zero h = (n, omega arith, u, refl)
    more_each n t ns u o (suc i) h = let x = o.each i (omega arith) in (x.0, omega (arith, x.1), x.2, x.3)

    more_once : (n t : ℕ) (ns : List Path) → n < most → P n ≡ true → Roll n t ns → (i j : ℕ) → i < suc t → j < suc t → slice_index_or (name n ∷ ns) i [] ≡ slice_index_or (name n ∷ ns) j [] → i ≡ j
    more_once n t ns l u o zero zero h k e = refl
    more_once n t ns l u o zero (suc j) h k e = let x = o.each j (omega arith) in absurd (alone n x.0 l x.1 u x.2 (sym x.3 ∙ sym e))
    more_once n t ns l u o (suc i) zero h k e = let x = o.each i (omega arith) in absurd (alone n x.0 l x.1 u x.2 (sym x.3 ∙ e))
    more_once n t ns l u o (suc i) (suc j) h k e = ap suc (o.once i j (omega arith) (omega arith) e)

    more : (n t : ℕ) (ns : List Path) → n < most → P n ≡ true → Roll n t ns → Roll (suc n) (suc t) (name n ∷ ns)
    more n t ns l u o = record {
      many = ap suc o.many;
      each = more_each n t ns u o;
      there = λ r h v. ⊎_elim (λ is. (zero, omega arith, ap name (sym is))) (λ ne. (let x = o.there r (omega arith) v in (suc x.0, omega (arith, x.1), x.2))) (cases_eq r n);
      once = more_once n t ns l u o;
    }

    pub roll : (n : ℕ) → n ≤ most → Roll n (how_many P n) (listed n)
    unfolding how_many listed
    roll zero h = record { many = refl; each = λ i l. absurd (omega arith); there = λ r l. absurd (omega arith); once = λ i j l. absurd (omega arith) }
    roll (suc n) h =
        let prev = roll n (omega arith) in
        let by : (b : Bool) → P n ≡ b → Roll (suc n) (cond b (how_many P n + 1) (how_many P n)) (cond b (name n ∷ listed n) (listed n)) =
        λ b. elim b as (λ b. P n ≡ b → Roll (suc n) (cond b (how_many P n + 1) (how_many P n)) (cond b (name n ∷ listed n) (listed n))) [ true ↦ λ e. rw add-one (more n (how_many P n) (listed n) (omega arith) e prev) | false ↦ λ e. skip n (how_many P n) (listed n) e prev ] in
        by (P n) refl
