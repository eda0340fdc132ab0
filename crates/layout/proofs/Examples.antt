-- The worked examples, by one test that is computed over the whole table.
use Rattle.std.proofs.Common.{◌≡◌, ℕ, Bool, true, false, ◌&&◌, eqb, List, [], ◌∷◌, Ok, Err, Result, refl, ap}
use Rattle.std.proofs.lemmas.Bool.{eqb-true, and_parts, false≢true}
use Rattle.device.specs.Numbers.{Told}
use Rattle.layout.specs.Entries.{entry_words}
use Rattle.layout.specs.Packing.{packed}
use Rattle.layout.specs.Writes.{split_of}
use Rattle.layout.specs.Examples.{Line, Holds, two_entries, word_in_log, examples}

same_told : Told → Told → Bool
same_told s t = eqb s.number t.number && (eqb s.layer t.layer && eqb s.place t.place)

same_answer : Result ℕ Told → Result ℕ Told → Bool
same_answer (Ok m) (Ok n) = eqb m n
same_answer (Ok m) (Err t) = false
same_answer (Err s) (Ok n) = false
same_answer (Err s) (Err t) = same_told s t

all_same : List Line → Bool
all_same [] = true
all_same (l ∷ ls) = same_answer l.got l.want && all_same ls

from_same : (a b : Result ℕ Told) → same_answer a b ≡ true → a ≡ b
unfolding same_answer same_told
from_same (Ok m) (Ok n) h = ap (λ x. Ok x) (eqb-true m n h)
from_same (Ok m) (Err t) h = absurd (false≢true h)
from_same (Err s) (Ok n) h = absurd (false≢true h)
from_same (Err s) (Err t) h =
    let first = and_parts (eqb s.number t.number) _ h in
    let rest = and_parts (eqb s.layer t.layer) _ first.1 in
    let number = eqb-true _ _ first.0 in
    let layer = eqb-true _ _ rest.0 in
    let place = eqb-true _ _ rest.1 in
    λ i. Err (record { number = number i; layer = layer i; place = place i })

each : (ls : List Line) → all_same ls ≡ true → Holds ls
unfolding all_same
each [] h = tt
each (l ∷ ls) h = let both = and_parts (same_answer l.got l.want) _ h in (from_same l.got l.want both.0, each ls both.1)

pub examples_hold : Holds examples
unfolding examples word_in_log two_entries split_of entry_words packed all_same same_answer same_told
examples_hold = each examples refl
