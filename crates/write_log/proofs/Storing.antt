-- A run of words on its way into a module: stores one after the other, and then a settle.
use Rattle.std.proofs.Common.{◌≡◌, ℕ, ◌+◌, ◌<◌, ◌≤◌, true, false, ◌⊎◌, List, ◌++◌, length, drop, set, replicate, IsErrAnd, Ok, Err, Result, sym, refl, ap, ◌∙◌, subst, inl, inr, ⊎_elim, append-nil, zero-add, arith}
use lib.Seq.{paste}
use Rattle.std.proofs.lemmas.List.Edits.{length-paste, paste_more, paste_all}
use Rattle.std.proofs.lemmas.List.{length-set, length-drop, length-replicate, get_or-drop, get_or-replicate, get_or-set_same, get_or-set_other, drop_all, ext_get_or}
use Rattle.std.proofs.lemmas.Bool.{cases_eq}
use Rattle.device.proofs.Failing.{failed_words}
use Rattle.device.proofs.Pasted.{paste_before, paste_inside, paste_outside, paste_after}
use Rattle.device.proofs.Resting.{rests}
use Rattle.device.specs.ModuleCalls.{Stored, Settled, Put}
use Rattle.device.specs.Numbers.{Says}
use Rattle.device.specs.Words.{Words, Sound, word, resting}
use Rattle.device.specs.declared.Fault.{Fault}
use Rattle.write_log.specs.Runs.{Dark, OneOf, Cut, Moves}

-- words that are W's or X's, where those of X are W's or Y's
further : (W X Y xs : List ℕ) (k : ℕ) → OneOf W X xs k → OneOf W Y X k → OneOf W Y xs k
further W X Y xs k one on = ⊎_elim inl (λ e. ⊎_elim (λ a. inl (e ∙ a)) (λ b. inr (e ∙ b)) on) one

same_words : (W Y : List ℕ) (xs ys : List ℕ) (k : ℕ) → xs ≡ ys → OneOf W Y ys k → OneOf W Y xs k
same_words W Y xs ys k e one = subst (λ l. OneOf W Y l k) (sym e) one

-- the refusal of a call in which power fails
pub dark : (m : Words) (e : Fault) (i : ℕ) → m.lit ≡ false → Says e 22 2 i → Dark m e
dark m e i out says = record { dark = out; number = ap (λ t. t.number) says; layer = ap (λ t. t.layer) says }

-- what is found is W's or Y's where the current and the sure words are
cut : (W Y : List ℕ) (m : Words) (e : Fault) → Dark m e → Sound m → length m.current ≡ length W → ((k : ℕ) → OneOf W Y m.current k) → ((k : ℕ) → OneOf W Y m.sure k) → Cut W Y m e
cut W Y m e failed sound long current sure = record {
  failed = failed;
  long = sound.founds ∙ long;
  between = λ k. grind (arith, current k, sure k, sound.chosen k);
}

-- i words of a run are stored from `start` on: the current words are X, the sure ones W's or X's, and outside of the run so far W's
pub record Storing (W : List ℕ) (start i : ℕ) (X : List ℕ) (m : Words) : Type 0 where
  pub lit : m.lit ≡ true
  pub current : m.current ≡ X
  pub wide : length m.sure ≡ length W
  pub either : (k : ℕ) → OneOf W X m.sure k
  pub outside : (k : ℕ) → (k < start) ⊎ (start + i ≤ k) → word m.sure k ≡ word W k

pub storing_none : (W : List ℕ) (start : ℕ) (m : Words) → m ≡ resting W → Storing W start 0 W m
storing_none W start m rest = record {
  lit = ap (λ x. x.lit) rest;
  current = ap (λ x. x.current) rest;
  wide = ap (λ x. length x.sure) rest;
  either = λ k. inl (ap (λ x. word x.sure k) rest);
  outside = λ k _. ap (λ x. word x.sure k) rest;
}

-- one word more
module _ (W : List ℕ) (start i v : ℕ) (X : List ℕ) (m m' : Words) (s : Storing W start i X m) (lt : start + i < length W) (long : length X ≡ length W) (fresh : word X (start + i) ≡ word W (start + i)) where
  put_either : Put m (start + i) v m' → (k : ℕ) → OneOf W (set X (start + i) v) m'.sure k
  put_either put k = grind (arith, s.either k, s.outside k, get_or-set_other, get_or-set_same, put.sure, cases_eq k (start + i))

  pub store_more : (u : Unit) → Stored m (start + i) v m' (Ok u) → Storing W start (i + 1) (set X (start + i) v) m'
  store_more u done = record {
    lit = done.lit_after;
    current = done.effect.current ∙ ap (λ l. set l (start + i) v) s.current;
    wide = grind (arith, length-set);
    either = put_either done.effect;
    outside = λ k apart. grind (arith, s.outside k, get_or-set_other);
  }

  -- a store that was not done, on the way to Y
  pub store_cut : (Y : List ℕ) → ((k : ℕ) → OneOf W Y X k) → ((k : ℕ) → OneOf W Y (set X (start + i) v) k) → Sound m' → (e : Fault) → Stored m (start + i) v m' (Err e) → Cut W Y m' e
  store_cut Y here onward sound e =
      let settled : word m.current (start + i) ≡ word m.sure (start + i) = ap (λ l. word l (start + i)) s.current ∙ fresh ∙ sym (s.outside (start + i) (inr (omega arith))) in
      ⊎_elim
      (λ f. ⊎_elim
      (λ kept. let now = kept.current ∙ s.current in
      cut W Y m' e (dark m' e (start + i) f.dark f.says) sound (ap length now ∙ long) (λ k. grind (arith, here k)) (λ k. grind (arith, here k, s.either k)))
      (λ done. let now = done.2.current ∙ ap (λ l. set l (start + i) v) s.current in
      cut W Y m' e (dark m' e (start + i) f.dark f.says) sound (ap length now ∙ length-set X (start + i) v ∙ long) (λ k. grind (arith, onward k)) (λ k. grind (arith, onward k, put_either done.2 k)))
      (failed_words f))
      (⊎_elim (λ d. absurd (omega (arith, d.reason, ap length s.current))) (λ d. absurd (d.reason.1 settled)))

-- the settle at the end
module _ (W : List ℕ) (start n : ℕ) (X : List ℕ) (m m' : Words) (s : Storing W start n X m) (room : start + n ≤ length W) (long : length X ≡ length W) (same : (k : ℕ) → (k < start) ⊎ (start + n ≤ k) → word X k ≡ word W k) (sound : Sound m') where
  settled_sure : m'.sure ≡ paste m.sure start (drop start m.current) n → m'.sure ≡ X
  settled_sure firm =
      let run = drop start m.current in
      let wide : length m.current ≡ length W = ap length s.current ∙ long in
      let enough : n ≤ length run = omega (arith, length-drop start m.current) in
      let fits : start + n ≤ length m.sure = omega (arith, s.wide) in
      firm ∙ ext_get_or 0 (paste m.sure start run n) X (length-paste m.sure start run n fits enough ∙ s.wide ∙ sym long)
      (λ k _. grind (arith, s.outside k, same k, s.current, paste_before, paste_inside, paste_after, get_or-drop))

  pub settle_moves : (r : Result Unit Fault) → Settled m start n m' r → Moves W X m' r
  settle_moves (Ok u) done = rests X m' sound done.lit_after (done.effect.current ∙ s.current) (settled_sure done.effect.sure)
  settle_moves (Err e) failed =
      ⊎_elim
      (λ f. ⊎_elim
      (λ kept. let now = kept.current ∙ s.current in
      cut W X m' e (dark m' e start f.dark f.says) sound (ap length now ∙ long) (λ k. grind arith) (λ k. grind (arith, s.either k)))
      (λ done. let now = done.1.current ∙ s.current in
      let sure = settled_sure done.1.sure in
      cut W X m' e (dark m' e start f.dark f.says) sound (ap length now ∙ long) (λ k. grind arith) (λ k. grind arith))
      (failed_words f))
      (λ d. absurd (omega (arith, d.reason, ap length s.current)))
      failed

-- part of a run, on the way to all of it
part_way : (W : List ℕ) (start : ℕ) (run : List ℕ) (i n : ℕ) → start + n ≤ length W → n ≤ length run → i ≤ n → (k : ℕ) → OneOf W (paste W start run n) (paste W start run i) k
part_way W start run i n room enough le k = grind (arith, paste_before, paste_inside, paste_after)

-- a run that is pasted into W
module _ (W : List ℕ) (start : ℕ) (run : List ℕ) (m m' : Words) (room : start + length run ≤ length W) where
  run_long : (i : ℕ) → i ≤ length run → length (paste W start run i) ≡ length W
  run_long i le = length-paste W start run i (omega arith) le

  run_fresh : (i : ℕ) → i < length run → word (paste W start run i) (start + i) ≡ word W (start + i)
  run_fresh i lt = paste_after W start run i (omega arith) (omega arith) (start + i) (omega arith)

  pub run_more : (i : ℕ) → Storing W start i (paste W start run i) m → i < length run → (u : Unit) → Stored m (start + i) (word run i) m' (Ok u) → Storing W start (i + 1) (paste W start run (i + 1)) m'
  run_more i s lt u done =
      subst (λ X. Storing W start (i + 1) X m') (paste_more W start run i 0 (omega arith) lt)
      (store_more W start i (word run i) (paste W start run i) m m' s (omega arith) (run_long i (omega arith)) (run_fresh i lt) u done)

  pub run_cut : (i : ℕ) → Storing W start i (paste W start run i) m → i < length run → Sound m' → (e : Fault) → Stored m (start + i) (word run i) m' (Err e) → Cut W (paste W start run (length run)) m' e
  run_cut i s lt =
      let goal = paste W start run (length run) in
      store_cut W start i (word run i) (paste W start run i) m m' s (omega arith) (run_long i (omega arith)) (run_fresh i lt) goal
      (part_way W start run i (length run) room (omega arith) (omega arith))
      (λ k. subst (λ X. OneOf W goal X k) (sym (paste_more W start run i 0 (omega arith) lt)) (part_way W start run (i + 1) (length run) room (omega arith) (omega arith) k))

  pub run_moves : (i : ℕ) → i ≡ length run → Storing W start i (paste W start run i) m → Sound m' → (r : Result Unit Fault) → Settled m start (length run) m' r → Moves W (paste W start run (length run)) m' r
  run_moves i end s sound =
      settle_moves W start (length run) (paste W start run (length run)) m m' (subst (λ n. Storing W start n (paste W start run n) m) end s) room (run_long (length run) (omega arith))
      (paste_outside W start run (length run) room (omega arith)) sound

-- zeros that are pasted over all of W
module _ (W : List ℕ) (m m' : Words) where
  abbrev pub zeros : List ℕ
  zeros = replicate (length W) 0

  count : length zeros ≡ length W
  count = length-replicate (length W) 0

  whole : paste W 0 zeros (length zeros) ≡ zeros
  whole = paste_all W 0 zeros (length zeros) refl ∙ ap (λ l. zeros ++ l) (drop_all (0 + length zeros) W (omega (arith, count))) ∙ append-nil zeros

  abbrev pub Clearing : ℕ → Words → Type 0
  Clearing i = Storing W 0 i (paste W 0 zeros i)

  asked : (i : ℕ) (r : Result Unit Fault) → i < length W → Stored m i 0 m' r → Stored m (0 + i) (word zeros i) m' r
  asked i r lt done = subst (λ v. Stored m (0 + i) v m' r) (sym (get_or-replicate (length W) i 0 0 lt)) (subst (λ j. Stored m j 0 m' r) (sym (zero-add i)) done)

  pub clear_more : (i : ℕ) → Clearing i m → i < length W → (u : Unit) → Stored m i 0 m' (Ok u) → Clearing (i + 1) m'
  clear_more i s lt u done = run_more W 0 zeros m m' (omega (arith, count)) i s (omega (arith, count)) u (asked i (Ok u) lt done)

  pub clear_cut : (i : ℕ) → Clearing i m → i < length W → Sound m' → (e : Fault) → Stored m i 0 m' (Err e) → Cut W zeros m' e
  clear_cut i s lt sound e failed = subst (λ X. Cut W X m' e) whole (run_cut W 0 zeros m m' (omega (arith, count)) i s (omega (arith, count)) sound e (asked i (Err e) lt failed))

  pub clear_moves : (i n : ℕ) → i ≡ length W → n ≡ length W → Clearing i m → Sound m' → (r : Result Unit Fault) → Settled m 0 n m' r → Moves W zeros m' r
  clear_moves i n end all s sound r done =
      subst (λ X. Moves W X m' r) whole (run_moves W 0 zeros m m' (omega (arith, count)) i (end ∙ sym count) s sound r (subst (λ k. Settled m 0 k m' r) (all ∙ sym count) done))

-- the exit of a `?`
pub moves_exit : (W X : List ℕ) (m : Words) (e : Fault) (r : Result Unit Fault) → IsErrAnd r (λ y. y ≡ e) → Cut W X m e → Moves W X m r
moves_exit W X m e (Ok u) by failed = absurd by
moves_exit W X m e (Err y) by failed = subst (λ z. Cut W X m z) (sym by) failed
