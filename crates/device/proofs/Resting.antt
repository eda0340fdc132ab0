-- When a module rests.
use Rattle.std.proofs.Common.{◌≡◌, ℕ, true, List, length, ap, ◌∙◌, ⊎_elim}
use Rattle.std.proofs.lemmas.List.{ext_get_or}
use Rattle.device.specs.Words.{Words, Sound, word, resting}

-- a lit module whose current and sure words are W rests
pub rests : (W : List ℕ) (m : Words) → Sound m → m.lit ≡ true → m.current ≡ W → m.sure ≡ W → m ≡ resting W
rests W m sound lit current sure =
    let found : m.found ≡ W = ext_get_or 0 m.found W (sound.founds ∙ ap length current)
    (λ k _. ⊎_elim (λ e. e ∙ ap (λ l. word l k) current) (λ e. e ∙ ap (λ l. word l k) sure) (sound.chosen k)) in
    λ i. record { lit = lit i; current = current i; sure = sure i; found = found i }
