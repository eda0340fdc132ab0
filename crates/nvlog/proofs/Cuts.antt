-- Parts of lists of words.
use Rattle.std.proofs.Common.{◌≡◌, ℕ, ◌-◌, min, List, length, take, drop, sym, ap, ◌∙◌, ⊎_elim, arith}
use Rattle.std.proofs.lemmas.List.{take_all, drop_all, length-drop}
use Rattle.std.proofs.lemmas.Bool.{cases_lt}

-- c words from s on, as far as there are words
pub cut : (xs : List ℕ) (s c f m : ℕ) → f ≡ min s (length xs) → m ≡ min c (length xs - f) → take m (drop f xs) ≡ take c (drop s xs)
cut xs s c f m from many =
    ⊎_elim
    (λ past.
    let none = drop_all f xs (omega arith) in
    let none' = drop_all s xs (omega arith) in
    take_all m (drop f xs) (omega (arith, length-drop f xs)) ∙ none ∙ sym none' ∙ sym (take_all c (drop s xs) (omega (arith, length-drop s xs))))
    (λ inside.
    let same : f ≡ s = omega arith in
    ap (λ n. take m (drop n xs)) same ∙ ⊎_elim
    (λ few. let is : m ≡ c = omega arith in ap (λ n. take n (drop s xs)) is)
    (λ all. take_all m (drop s xs) (omega (arith, length-drop s xs)) ∙ sym (take_all c (drop s xs) (omega (arith, length-drop s xs))))
    (cases_lt c (length xs - s)))
    (cases_lt (length xs) s)
