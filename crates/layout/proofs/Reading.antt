-- When words are a path's or an entry's, and that what was written is read again.
use Rattle.std.proofs.Common.{◌≡◌, ℕ, suc, ◌-◌, ◌<◌, ◌≤◌, Bool, true, false, not, leb, List, ◌++◌, length, get_or, take, drop, replicate, Some, None, Ok, Err, sym, refl, ap, ◌∙◌, arith}
use Rattle.std.proofs.lemmas.List.{take_rest, take_at}
use Rattle.std.proofs.lemmas.Bool.{and_from, and_left, and_right, and_parts, cond-true, cond-false, lt-leb, leb-true, false≢true}
use Rattle.std.proofs.lemmas.Slice.Eq.{bytes_eq-Decides}
use Rattle.std.specs.Str.{bytes_eq}
use Rattle.device.specs.Numbers.{Told, refusal}
use Rattle.layout.specs.Packing.{unpacked, Bytes}
use Rattle.device.specs.Paths.{no_zero, path_fits}
use Rattle.layout.specs.Rows.{row_words, row_of, said_path, read_path}
use Rattle.layout.specs.Entries.{Entry, entry_fits, entry_words, said, read_entry}
use Rattle.layout.specs.Marks.{is_mark}
use Rattle.layout.proofs.Tellings.{cond_ok, cond_err}
use Rattle.layout.proofs.Packed.{length-packed, length-unpacked, unpacked-packed}

not_same : (xs ys : List ℕ) → (xs ≡ ys → ⊥) → bytes_eq xs ys ≡ false
not_same xs ys no_way =
    let by : (t : Bool) → bytes_eq xs ys ≡ t → t ≡ false = λ t. elim t as (λ v. bytes_eq xs ys ≡ v → v ≡ false) [ true ↦ (λ e. absurd (no_way ((bytes_eq-Decides xs ys).0 e))) | false ↦ (λ e. refl) ] in
    by (bytes_eq xs ys) refl

same : (xs ys : List ℕ) → xs ≡ ys → bytes_eq xs ys ≡ true
same xs ys = (bytes_eq-Decides xs ys).1

-- what a comparison in the code tells

pub from_eq : (xs ys : List ℕ) → true ≡ bytes_eq xs ys → xs ≡ ys
from_eq xs ys e = (bytes_eq-Decides xs ys).0 (sym e)

pub from_ne : (xs ys : List ℕ) → true ≡ not (bytes_eq xs ys) → xs ≡ ys → ⊥
from_ne xs ys e is = false≢true (ap not (sym (same xs ys is)) ∙ sym e)

pub from_not_ne : (xs ys : List ℕ) → false ≡ not (bytes_eq xs ys) → xs ≡ ys
from_not_ne xs ys e = from_eq xs ys (not-is-false (bytes_eq xs ys) e)
  where
    not-is-false : (b : Bool) → false ≡ not b → true ≡ b
    not-is-false true e = refl
    not-is-false false e = absurd (false≢true e)

-- rows of names

pub length-row_words : (path : List ℕ) → length (row_words path) ≡ 5
unfolding row_words
length-row_words path = ap suc (length-packed 4 path)

pub no_path_unfit : (ws : List ℕ) → path_fits (said_path ws) ≡ false → read_path ws ≡ None
unfolding read_path
no_path_unfit ws e = cond-false _ _ _ (and_left (path_fits (said_path ws)) (bytes_eq ws (row_words (said_path ws))) e)

pub no_path_other : (ws : List ℕ) → (ws ≡ row_words (said_path ws) → ⊥) → read_path ws ≡ None
unfolding read_path
no_path_other ws n = cond-false _ _ _ (and_right (path_fits (said_path ws)) (bytes_eq ws (row_words (said_path ws))) (not_same ws _ n))

pub a_path : (ws : List ℕ) → path_fits (said_path ws) ≡ true → ws ≡ row_words (said_path ws) → read_path ws ≡ Some (said_path ws)
unfolding read_path
a_path ws e f = cond-true _ _ _ (and_from (path_fits (said_path ws)) (bytes_eq ws (row_words (said_path ws))) e (same ws _ f))

pub no_path_wide : (ws : List ℕ) → (length ws ≡ 5 → ⊥) → read_path ws ≡ None
no_path_wide ws n = no_path_other ws (λ e. n (ap length e ∙ length-row_words (said_path ws)))

pub no_path_long : (ws : List ℕ) → 32 < get_or ws 0 0 → read_path ws ≡ None
no_path_long ws h =
    let long = length-unpacked (get_or ws 0 0) (drop 1 ws) in
    no_path_unfit ws (and_right (leb 1 (length (said_path ws))) _ (and_left (leb (length (said_path ws)) 32) (no_zero (said_path ws)) (lt-leb (length (said_path ws)) 32 (omega arith))))

-- entries

pub length-entry_words : (e : Entry) → length (entry_words e) ≡ 68
unfolding entry_words
length-entry_words e = ap (λ n. suc (suc (suc (suc n)))) (length-packed 64 e.bytes)

pub no_entry_unfit : (ws : List ℕ) → entry_fits (said ws) ≡ false → read_entry ws ≡ None
unfolding read_entry
no_entry_unfit ws e = cond-false _ _ _ (and_left (entry_fits (said ws)) (bytes_eq ws (entry_words (said ws))) e)

pub no_entry_other : (ws : List ℕ) → (ws ≡ entry_words (said ws) → ⊥) → read_entry ws ≡ None
unfolding read_entry
no_entry_other ws n = cond-false _ _ _ (and_right (entry_fits (said ws)) (bytes_eq ws (entry_words (said ws))) (not_same ws _ n))

pub an_entry : (ws : List ℕ) → entry_fits (said ws) ≡ true → ws ≡ entry_words (said ws) → read_entry ws ≡ Some (said ws)
unfolding read_entry
an_entry ws e f = cond-true _ _ _ (and_from (entry_fits (said ws)) (bytes_eq ws (entry_words (said ws))) e (same ws _ f))

pub no_entry_wide : (ws : List ℕ) → (length ws ≡ 68 → ⊥) → read_entry ws ≡ None
no_entry_wide ws n = no_entry_other ws (λ e. n (ap length e ∙ length-entry_words (said ws)))

-- what was written is read again

pub said-entry_words : (e : Entry) → Bytes e.bytes → length e.bytes ≤ 512 → said (entry_words e) ≡ e
unfolding entry_words
said-entry_words e small h = ap (λ (bs : List ℕ). record { mark = e.mark; row = e.row; offset = e.offset; bytes = bs }) (unpacked-packed 64 e.bytes small h)

pub read_entry-entry_words : (e : Entry) → Bytes e.bytes → entry_fits e ≡ true → read_entry (entry_words e) ≡ Some e
read_entry-entry_words e small fits =
    let few : length e.bytes ≤ 512 = leb-true _ _ (and_parts (leb (length e.bytes) 512) _ (and_parts (leb 1 (length e.bytes)) _ (and_parts _ _ (and_parts (is_mark e.mark) _ fits).1).1).1).0 in
    let is = said-entry_words e small few in
    an_entry (entry_words e) (ap entry_fits is ∙ fits) (ap entry_words (sym is))
    ∙ ap (λ x. Some x) is

pub read_path-row_words : (path : List ℕ) → Bytes path → path_fits path ≡ true → read_path (row_words path) ≡ Some path
unfolding row_words
read_path-row_words path small fits =
    let few : length path ≤ 32 = leb-true _ _ (and_parts (leb (length path) 32) _ (and_parts (leb 1 (length path)) _ fits).1).0 in
    let is : said_path (row_words path) ≡ path = unpacked-packed 4 path small few in
    a_path (row_words path) (ap path_fits is ∙ fits) (ap row_words (sym is))
    ∙ ap (λ x. Some x) is

-- what the code cuts out of words, from a on, is what the words say; the array has room for N
pub cut_out : (ws bs : List ℕ) (a n N : ℕ) → bs ≡ unpacked n (take (length ws - a) (drop a ws)) ++ replicate (N - n) 0 → (take n bs ≡ unpacked n (drop a ws)) × (bs ≡ unpacked n (drop a ws) ++ replicate (N - length (unpacked n (drop a ws))) 0)
cut_out ws bs a n N given =
    let front = unpacked n (drop a ws) in
    let long = length-unpacked n (drop a ws) in
    let is : bs ≡ front ++ replicate (N - n) 0 = given ∙ ap (λ x. unpacked n x ++ replicate (N - n) 0) (take_rest ws a) in
    (ap (take n) is ∙ take_at front (replicate (N - n) 0) n long, is ∙ ap (λ x. front ++ replicate (N - x) 0) (sym long))

pub row_given : (path ws : List ℕ) → Ok ws ≡ row_of path → (path_fits path ≡ true) × (ws ≡ row_words path)
row_given path ws h = cond_ok _ ws (row_words path) (refusal 4 0 0) h

pub row_declined : (path : List ℕ) (t : Told) → Err t ≡ row_of path → path_fits path ≡ false
row_declined path t h = cond_err _ (row_words path) t (refusal 4 0 0) h
