-- A run of words on its way out of a module: loads one after the other.
use Rattle.std.proofs.Common.{◌≡◌, ℕ, ◌+◌, ◌<◌, ◌≤◌, List, length, take, drop, IsErrAnd, Ok, Err, Result, sym, ap, ◌∙◌, subst, inl, inr, ⊎_elim, arith}
use Rattle.std.proofs.lemmas.List.{length-take, length-drop, get_or-take, get_or-drop, ext_get_or}
use Rattle.std.proofs.lemmas.Bool.{cases_lt}
use Rattle.device.proofs.Failing.{failed_words}
use Rattle.device.specs.ModuleCalls.{Kept, Loaded}
use Rattle.device.specs.Words.{Words, word, width}
use Rattle.device.specs.declared.Fault.{Fault}
use Rattle.write_log.specs.Runs.{Dark, OneOf, Read}
use Rattle.write_log.proofs.Storing.{dark}

kept_on : (m n m' : Words) → Kept m n → Kept n m' → Kept m m'
kept_on m n m' a b = record { current = b.current ∙ a.current; sure = b.sure ∙ a.sure }

-- one load more, where the words are m's
module _ (m n m' : Words) (i : ℕ) (lit : n.lit ≡ m.lit) (kept : Kept m n) where
  pub load_more : (v : ℕ) → Loaded n i m' (Ok v) → (m'.lit ≡ m.lit) × Kept m m' × (v ≡ word m.current i)
  load_more v done =
      (done.lit_after ∙ sym done.lit ∙ lit, kept_on m n m' kept done.effect.1, done.effect.0 ∙ ap (λ l. word l i) kept.current)

  pub load_dark : (e : Fault) → i < width m → Loaded n i m' (Err e) → Dark m' e × Kept m m'
  load_dark e lt =
      ⊎_elim
      (λ f. (dark m' e i f.dark f.says, kept_on m n m' kept (⊎_elim (λ k. k) (λ k. k) (failed_words f))))
      (λ d. absurd (omega (arith, d.reason, ap length kept.current)))

-- all words are read
pub loaded_all : (W out : List ℕ) (start n : ℕ) → length out ≡ n → start + n ≤ length W → ((k : ℕ) → k < n → word out k ≡ word W (start + k)) → out ≡ take n (drop start W)
loaded_all W out start n long room each =
    ext_get_or 0 out (take n (drop start W)) (omega (arith, length-take n (drop start W), length-drop start W))
    (λ k lt. each k (omega arith) ∙ sym (get_or-take n (drop start W) k 0 (omega arith) ∙ get_or-drop start W k 0))

-- the first i of them are
pub loaded_some : (W out out' : List ℕ) (start i : ℕ) → ((k : ℕ) → k < i → word out' k ≡ word W (start + k)) → ((k : ℕ) → i ≤ k → word out' k ≡ word out k) → (k : ℕ) → OneOf out (drop start W) out' k
loaded_some W out out' start i read rest k = ⊎_elim (λ b. inr (read k b ∙ sym (get_or-drop start W k 0))) (λ b. inl (rest k b)) (cases_lt k i)

-- the exit of a `?`
pub read_exit : (m : Words) (start : ℕ) (out out' : List ℕ) (m' : Words) (e : Fault) (r : Result Unit Fault) → IsErrAnd r (λ y. y ≡ e) → Read m start out out' m' (Err e) → Read m start out out' m' r
read_exit m start out out' m' e (Ok u) by failed = absurd by
read_exit m start out out' m' e (Err y) by failed = subst (λ z. Read m start out out' m' (Err z)) (sym by) failed
