-- What a restart finds: two slices that have it word for word, whatever they hold past it, are a module that rests.
use Rattle.std.proofs.Common.{◌≡◌, ℕ, ◌<◌, ◌≤◌, min, true, cond, List, length, take, sym, ◌∙◌, arith}
use Rattle.std.proofs.lemmas.List.{get_or-take, length-take-le}
use Rattle.std.proofs.lemmas.List.FromFn.{fill_by_all}
use Rattle.device.specs.Words.{word, resting}
use Rattle.memory.proofs.Parts.{found_same}
use Rattle.memory.specs.Plans.{Plan, bit_set, found_at, found_words}
use Rattle.memory.specs.Meanings.{staged, shorter}

-- a restart: what was found is copied to both slices
module _ (p : Plan) (xs ys : List ℕ) where
  abbrev pub found_in : List ℕ
  found_in = (staged p xs ys).found

  part_found : (zs : List ℕ) (n : ℕ) → n ≡ shorter xs ys → n ≤ length zs → ((k : ℕ) → k < shorter xs ys → word zs k ≡ found_at p.pattern xs ys k) → take n zs ≡ found_in
  part_found zs n e l f =
      let w = shorter xs ys in
      let lx = length-take-le w xs (omega arith) in
      fill_by_all (found_at p.pattern (take w xs) (take w ys)) (take n zs) (length (take w xs)) 0 (length-take-le n zs l ∙ e ∙ sym lx)
      (λ k h. let kw : k < w = omega arith in
      get_or-take n zs k 0 (omega arith) ∙ f k kw ∙ sym ((λ t. cond (bit_set p.pattern k) (get_or-take w xs k 0 kw t) (get_or-take w ys k 0 kw t))))

  pub restarted : (p' : Plan) (xs' ys' : List ℕ) → p'.on ≡ true → length xs' ≡ length xs → length ys' ≡ length ys
      → ((k : ℕ) → k < shorter xs ys → word xs' k ≡ found_at p.pattern xs ys k) → ((k : ℕ) → k < shorter xs ys → word ys' k ≡ found_at p.pattern xs ys k)
      → staged p' xs' ys' ≡ resting found_in
  restarted p' xs' ys' on lx ly fx fy =
      let w = shorter xs' ys' in
      let same : w ≡ shorter xs ys = λ t. min (lx t) (ly t) in
      let cur : take w xs' ≡ found_in = part_found xs' w same (omega arith) fx in
      let sur : take w ys' ≡ found_in = part_found ys' w same (omega arith) fy in
      λ t. record { lit = on t; current = cur t; sure = sur t; found = ((λ s. found_words p'.pattern (cur s) (sur s)) ∙ found_same p'.pattern found_in) t }
