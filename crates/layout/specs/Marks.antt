-- Marks: 1 to 8 on the first entry of a committed group, which says how many entries it has, and 17 to 23 on those that follow.
use Rattle.std.specs.Prelude.{◌≡◌, ℕ, ◌+◌, ◌-◌, Bool, true, false, cond, ◌&&◌, ◌||◌, Ok, Err, Result, ◌==◌, nat_le}
use Rattle.layout.specs.declared.marks.Mark.{Mark}
use Rattle.layout.specs.declared.marks.Mark.TheVariants.{First, Next}
use Rattle.layout.specs.declared.marks.NoMark.{NoMark}

-- the mark of the entry d places after the first one of a committed group of k
abbrev pub mark_of : ℕ → ℕ → ℕ
mark_of k d = cond (d == 0) k (16 + d)

abbrev pub is_mark : ℕ → Bool
is_mark m = (nat_le 1 m && nat_le m 8) || (nat_le 17 m && nat_le m 23)

-- the word of a mark, as the code holds it
abbrev pub mark_word : Mark → ℕ
mark_word (First k) = k
mark_word (Next d) = 16 + d

-- what a word says as a mark
abbrev pub mark_said : ℕ → Mark
mark_said m = cond (nat_le m 8) (First m) (Next (m - 16))

-- the code holds the mark that a word is
pub record Marked (mark : Mark) (m : ℕ) : Type 0 where
  pub word : mark_word mark ≡ m
  pub kind : mark ≡ mark_said m

-- a word is a mark, or none
abbrev pub MarkRead : ℕ → Result Mark NoMark → Type 0
MarkRead m (Ok mark) = (is_mark m ≡ true) × Marked mark m
MarkRead m (Err e) = is_mark m ≡ false
