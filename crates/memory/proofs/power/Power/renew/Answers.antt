use Rattle.std.proofs.Common.{◌≡◌, ◌+◌, true, length, drop, sym, ◌∙◌, arith, rules, drop-drop}
use Rattle.std.proofs.lemmas.List.{drop_all}
use Rattle.memory.proofs.power.Power.renew.Goals as goal

pub returns : goal.returns
returns c = λ p.
    let s = c.args.self.now in
    let four : length s.counts ≡ 4 = search rules in
    let next : drop c.saturating_add-self.result s.counts ≡ drop (s.life + 1) s.counts = grind (arith, drop_all) in
    λ i. record { on = true; left = (next ∙ sym (drop-drop 1 s.life s.counts)) i; pattern = p }
