-- The words of an empty log.
use Rattle.std.proofs.Common.{◌≡◌, ℕ, ◌+◌, ◌*◌, ◌≤◌, List, ◌∷◌, ◌++◌, length, drop, replicate, Ok, sym, refl, ap, ◌∙◌, arith}
use lib.Seq.{paste}
use Rattle.std.proofs.lemmas.List.Edits.{paste_all}
use Rattle.std.proofs.lemmas.List.{drop_at, length-append, length-replicate, replicate-append-replicate}
use Rattle.layout.specs.Places.{width_of, width_for, header_words, empty_words}
use Rattle.layout.proofs.Tellings.{cond_ok}

pub width_is : (n w : ℕ) → Ok w ≡ width_for n → w ≡ width_of n
width_is n w given = (cond_ok _ w (width_of n) _ given).1

-- zeros for the rows, the tail and the entries
zeros_apart : (n : ℕ) → replicate {A = ℕ} (81 + 68 * n) 0 ≡ replicate 80 0 ++ (0 ∷ replicate (68 * n) 0)
zeros_apart n = sym (replicate-append-replicate {A = ℕ} 81 (68 * n) 0)

module _ (n w : ℕ) (first : List ℕ) (is : w ≡ width_of n) (front : first ≡ header_words n) where
  eight : length first ≡ 8
  eight = ap length front

  -- the header fits into the zeros
  pub header_room : 0 + length first ≤ length (replicate {A = ℕ} w 0)
  header_room = omega (arith, eight, length-replicate {A = ℕ} w 0)

  -- zeros with a header in front
  pub fresh_words : paste (replicate w 0) 0 first (length first) ≡ empty_words n
  fresh_words =
      let all : w ≡ 8 + (81 + 68 * n) = omega (arith, is) in
      let split : replicate {A = ℕ} w 0 ≡ replicate 8 0 ++ replicate (81 + 68 * n) 0 = ap (λ k. replicate k 0) all ∙ sym (replicate-append-replicate {A = ℕ} 8 (81 + 68 * n) 0) in
      let rest : drop (0 + length first) (replicate {A = ℕ} w 0) ≡ replicate (81 + 68 * n) 0 = (λ i. drop (0 + eight i) (split i)) ∙ drop_at (replicate {A = ℕ} 8 0) (replicate (81 + 68 * n) 0) 8 refl in
      paste_all (replicate w 0) 0 first (length first) refl ∙ (λ i. front i ++ rest i) ∙ ap (λ l. header_words n ++ l) (zeros_apart n)

pub fresh_length : (n : ℕ) → length (empty_words n) ≡ width_of n
fresh_length n =
    let zeros : List ℕ = replicate (81 + 68 * n) 0 in
    let long : length (empty_words n) ≡ length (header_words n ++ zeros) = ap (λ l. length (header_words n ++ l)) (sym (zeros_apart n)) in
    omega (arith, long, length-append (header_words n) zeros, length-replicate {A = ℕ} (81 + 68 * n) 0)
