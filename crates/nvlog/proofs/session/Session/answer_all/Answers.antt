use Rattle.std.proofs.Common.{◌≡◌, ℕ, ◌+◌, ◌<◌, ◌≤◌, cond, is_some, OnSome, Some, None, Option, arith}
use Rattle.nvlog.proofs.session.Session.answer_all.Goals as goal

-- lines were taken, if there is another log after this one
fewer : {X : Type 0} (this next : Option X) (x : X) (m n : ℕ) → this ≡ Some x → n ≤ m → OnSome next (n < m) → n + cond (is_some next) 1 0 < m + cond (is_some this) 1 0
fewer this (Some y) x m n is rest taken = rw is (omega arith)
fewer this None x m n is rest taken = rw is (omega arith)

pub loop-next-smaller : goal.loop-next-smaller
loop-next-smaller g c = fewer c.loop-next.next c.in_ok-next-2.next _ _ _ c.in-Some.is c.in_ok-next-2.ensures.rest c.in_ok-next-2.ensures.taken
