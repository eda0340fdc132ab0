-- What a store, a settle and a restart do to the part of two slices that both of them have.
use Rattle.std.proofs.Common.{◌≡◌, ℕ, zero, suc, ◌+◌, ◌-◌, ◌<◌, ◌≤◌, min, true, ◌⊎◌, List, [], ◌∷◌, ◌++◌, length, take, drop, set, sym, refl, ap, ◌∙◌, arith, length-drop, zero-add, take-add, take-append-drop}
use lib.Seq.{paste}
use Rattle.std.proofs.lemmas.List.{get_or-take, get_or-drop, ext_get_or, length-take, length-set, length-take-le, take_at, length-append}
use Rattle.std.proofs.lemmas.List.Edits.{length-paste, take-paste, paste_more}
use Rattle.std.proofs.lemmas.List.FromFn.{fill_by_all, length-map-range_with_len}
use Rattle.device.proofs.Pasted.{paste_before, paste_inside, paste_outside, paste_after}
use Rattle.device.specs.Words.{word, resting}
use Rattle.device.specs.ModuleCalls.{Firm}
use Rattle.memory.specs.Plans.{Plan, found_at, found_words}
use Rattle.memory.specs.Meanings.{staged, shorter}

-- words pasted over themselves
pub paste_same : (W : List ℕ) (i c : ℕ) → W ≡ paste W i (drop i W) c
paste_same W i c = sym (ap (λ l. l ++ drop (i + c) W) (sym (take-add i c W)) ∙ take-append-drop (i + c) W)

pub shorter_long : (xs ys : List ℕ) → length (take (shorter xs ys) xs) ≡ shorter xs ys
shorter_long xs ys = length-take-le (shorter xs ys) xs (omega arith)

take-set : (n : ℕ) (xs : List ℕ) (i v : ℕ) → take n (set xs i v) ≡ set (take n xs) i v
take-set zero xs i v = refl
take-set (suc n) [] i v = refl
take-set (suc n) (x ∷ xs) zero v = refl
take-set (suc n) (x ∷ xs) (suc i) v = ap (λ l. x ∷ l) (take-set n xs i v)

module _ (xs ys : List ℕ) (i v : ℕ) where
  same_width : shorter (set xs i v) ys ≡ shorter xs ys
  same_width = ap (λ n. min n (length ys)) (length-set xs i v)

  pub stored_current : take (shorter (set xs i v) ys) (set xs i v) ≡ set (take (shorter xs ys) xs) i v
  stored_current = ap (λ n. take n (set xs i v)) same_width ∙ take-set (shorter xs ys) xs i v

  pub stored_sure : take (shorter (set xs i v) ys) ys ≡ take (shorter xs ys) ys
  stored_sure = ap (λ n. take n ys) same_width

-- the run of one list from i on, pasted into another
module _ (xs ys : List ℕ) (i c : ℕ) (hx : i + c ≤ length xs) (hy : i + c ≤ length ys) where
  enough : c ≤ length (drop i xs)
  enough = omega (arith, length-drop i xs)

  run_inside : (k : ℕ) → i ≤ k → k < i + c → word (paste ys i (drop i xs) c) k ≡ word xs k
  run_inside k a b = paste_inside ys i (drop i xs) c hy enough k a b ∙ get_or-drop i xs (k - i) 0 ∙ ap (word xs) (omega arith)

  run_outside : (k : ℕ) → (k < i) ⊎ (i + c ≤ k) → word (paste ys i (drop i xs) c) k ≡ word ys k
  run_outside k = paste_outside ys i (drop i xs) c hy enough k

  pub run_long : length (paste ys i (drop i xs) c) ≡ length ys
  run_long = length-paste ys i (drop i xs) c hy enough

-- one word more of the run
pub run_more : (xs ys : List ℕ) (i k : ℕ) → i + k < length xs → i + k < length ys → set (paste ys i (drop i xs) k) (i + k) (word xs (i + k)) ≡ paste ys i (drop i xs) (k + 1)
run_more xs ys i k hx hy =
    ap (set (paste ys i (drop i xs) k) (i + k)) (sym (get_or-drop i xs k 0)) ∙ paste_more ys i (drop i xs) k 0 hy (omega (arith, length-drop i xs))

-- a run that is pasted within the first w words
take_of_paste : (w : ℕ) (xs ys : List ℕ) (i c : ℕ) → i + c ≤ w → w ≤ length xs → w ≤ length ys → take w (paste ys i (drop i xs) c) ≡ paste (take w ys) i (drop i (take w xs)) c
take_of_paste w xs ys i c h hx hy =
    ext_get_or 0 (take w (paste ys i (drop i xs) c)) (paste (take w ys) i (drop i (take w xs)) c) (grind (arith, length-paste, length-take, length-drop))
    (λ k lt. grind (arith, paste_before, paste_inside, paste_after, get_or-take, get_or-drop, length-take, length-drop))

-- a settle: the run of current words is copied to the sure ones
pub copied : (p p' : Plan) (xs ys zs : List ℕ) (i c : ℕ) → i + c ≤ shorter xs ys → zs ≡ paste ys i (drop i xs) c → Firm (staged p xs ys) i c (staged p' xs zs)
copied p p' xs ys zs i c h ez =
    let w = shorter xs ys in
    let long = length-paste ys i (drop i xs) c (omega arith) (omega (arith, length-drop i xs)) in
    let same : shorter xs zs ≡ w = ap (λ l. min (length xs) (length l)) ez ∙ ap (min (length xs)) long in
    record {
      current = ap (λ n. take n xs) same;
      sure = (λ t. take (same t) (ez t)) ∙ take_of_paste w xs ys i c h (omega arith) (omega arith);
    }

-- words that are found where the current and the sure ones are the same
pub found_same : (p : ℕ) (W : List ℕ) → found_words p W W ≡ W
found_same p W = sym (fill_by_all (found_at p W W) W (length W) 0 refl (λ k h. grind arith))

-- a restart: what was found of the first w words becomes current, and then sure
pub restarted : (p p' : Plan) (xs ys fs zs : List ℕ) (w : ℕ) → w ≡ shorter xs ys → p'.on ≡ true → fs ≡ found_words p.pattern (take w xs) (take w ys) → zs ≡ paste ys 0 (fs ++ drop w xs) w
    → staged p' (fs ++ drop w xs) zs ≡ resting (staged p xs ys).found
restarted p p' xs ys fs zs w all on found firm =
    let cs = fs ++ drop w xs in
    let long : length fs ≡ w = ap length found ∙ length-map-range_with_len (found_at p.pattern (take w xs) (take w ys)) 0 (length (take w xs)) ∙ length-take-le w xs (omega arith) in
    let wide : length cs ≡ length xs = grind (arith, length-append, length-drop) in
    let wide' : length zs ≡ length ys = ap length firm ∙ length-paste ys 0 cs w (omega arith) (omega arith) in
    let same : shorter cs zs ≡ w = omega arith in
    let whole : fs ≡ (staged p xs ys).found = found ∙ ap (λ n. found_words p.pattern (take n xs) (take n ys)) all in
    let current : take (shorter cs zs) cs ≡ fs = ap (λ n. take n cs) same ∙ take_at fs (drop w xs) w long in
    let sure : take (shorter cs zs) zs ≡ fs = (λ t. take (same t) (firm t)) ∙ ap (λ n. take n (paste ys 0 cs w)) (sym (zero-add w)) ∙ take-paste ys 0 cs w (omega arith) (omega arith) ∙ take_at fs (drop w xs) w long in
    λ t. record {
      lit = on t;
      current = (current ∙ whole) t;
      sure = (sure ∙ whole) t;
      found = ((λ s. found_words p'.pattern (current s) (sure s)) ∙ found_same p'.pattern fs ∙ whole) t;
    }
