-- A search over a range, said by the first place at which a test holds.
use Rattle.std.proofs.Common.{◌≡◌, ℕ, ◌<◌, ◌≤◌, Bool, true, false, Some, None, Option, sym, arith}
use Rattle.std.specs.Option.{MatchOption}
use Rattle.flat.specs.SearchLaws.{first_is, first_none}
use Rattle.flat.specs.Searches.{first}

pub first_found : (P : ℕ → Bool) (n : ℕ) (r : Option ℕ)
    → MatchOption r ((k : ℕ) → 0 ≤ k → k < n → P k ≡ false) (λ i. (0 ≤ i) × (i < n) × (P i ≡ true) × ((k : ℕ) → 0 ≤ k → k < i → P k ≡ false)) → r ≡ first P n
first_found P n None h = sym (first_none P n (λ k l. h k (omega arith) l))
first_found P n (Some i) h = sym (first_is P n i (record { low = h.1; here = h.2; before = λ k l. h.3 k (omega arith) l }))
