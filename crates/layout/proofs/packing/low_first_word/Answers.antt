use Rattle.std.proofs.Common.{◌≡◌, ℕ, ◌≤◌, List, [], ◌∷◌, ◌++◌, length, drop, ap, ◌∙◌, arith, w64}
use Rattle.std.specs.Int.{from_le_bytes}
use Rattle.layout.specs.Packing.{low_first}
use Rattle.layout.proofs.packing.low_first_word.Goals as goal

-- eight bytes or fewer, filled up with zeros
filled : (bs : List ℕ) → length bs ≤ 8 → from_le_bytes w64 (bs ++ drop (length bs) (0 ∷ 0 ∷ 0 ∷ 0 ∷ 0 ∷ 0 ∷ 0 ∷ 0 ∷ [])) ≡ low_first bs
filled [] h = omega arith
filled (a ∷ []) h = omega arith
filled (a ∷ b ∷ []) h = omega arith
filled (a ∷ b ∷ d ∷ []) h = omega arith
filled (a ∷ b ∷ d ∷ e ∷ []) h = omega arith
filled (a ∷ b ∷ d ∷ e ∷ f ∷ []) h = omega arith
filled (a ∷ b ∷ d ∷ e ∷ f ∷ g ∷ []) h = omega arith
filled (a ∷ b ∷ d ∷ e ∷ f ∷ g ∷ i ∷ []) h = omega arith
filled (a ∷ b ∷ d ∷ e ∷ f ∷ g ∷ i ∷ j ∷ []) h = omega arith
filled (a ∷ b ∷ d ∷ e ∷ f ∷ g ∷ i ∷ j ∷ k ∷ bs) h = absurd (omega arith)

pub returns : goal.returns
returns c =
    c.from_le_bytes.ensures
    ∙ ap (λ bs. from_le_bytes w64 (bs ++ drop (length c.args.bytes.now) (0 ∷ 0 ∷ 0 ∷ 0 ∷ 0 ∷ 0 ∷ 0 ∷ 0 ∷ []))) c.copy_from_slice.ensures.after
    ∙ filled c.args.bytes.now c.requires
