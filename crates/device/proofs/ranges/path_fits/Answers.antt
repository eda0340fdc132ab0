use Rattle.std.proofs.Common.{◌≡◌, ℕ, Bool, true, false, nat_eq, not, ◌&&◌, ◌||◌, List, [], ◌∷◌, refl, ap, ◌∙◌, arith}
use Rattle.std.specs.List.{list_any}
use Rattle.std.proofs.lemmas.Bool.Decides.{nat_tests}
use Rattle.device.specs.Paths.{no_zero}
use Rattle.device.proofs.ranges.path_fits.Goals as goal

not_or : (a b : Bool) → (not a && not b) ≡ not (a || b)
not_or true b = refl
not_or false b = refl

no_zero-any : (xs : List ℕ) → no_zero xs ≡ not (list_any (λ y. nat_eq y 0) xs)
no_zero-any [] = refl
no_zero-any (x ∷ xs) = ap (λ b. not (nat_eq x 0) && b) (no_zero-any xs) ∙ not_or (nat_eq x 0) (list_any (λ y. nat_eq y 0) xs)

-- src/ranges.rt:6:1
pub returns-then-path-le32 : goal.returns-then-path-le32
returns-then-path-le32 c = let e = no_zero-any c.args.path.now in grind (arith, nat_tests)
