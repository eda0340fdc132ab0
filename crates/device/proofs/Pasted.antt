-- The words of a list in which a run is replaced, one by one.
use Rattle.std.proofs.Common.{◌≡◌, ℕ, ◌+◌, ◌-◌, ◌<◌, ◌≤◌, ◌⊎◌, List, length, ⊎_elim, rules}
use lib.Seq.{paste}
use Rattle.std.proofs.lemmas.List.{places}
use Rattle.device.specs.Words.{word}

module _ (W : List ℕ) (i : ℕ) (ws : List ℕ) (n : ℕ) (h : i + n ≤ length W) (hn : n ≤ length ws) where
  pub paste_before : (k : ℕ) → k < i → word (paste W i ws n) k ≡ word W k
  paste_before k l = search (rules, places)

  pub paste_after : (k : ℕ) → i + n ≤ k → word (paste W i ws n) k ≡ word W k
  paste_after k l = search (rules, places)

  pub paste_inside : (k : ℕ) → i ≤ k → k < i + n → word (paste W i ws n) k ≡ word ws (k - i)
  paste_inside k l b = search (rules, places)

  pub paste_outside : (k : ℕ) → (k < i) ⊎ (i + n ≤ k) → word (paste W i ws n) k ≡ word W k
  paste_outside k = ⊎_elim (paste_before k) (paste_after k)
