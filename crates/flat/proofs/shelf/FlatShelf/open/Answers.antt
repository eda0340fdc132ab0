use Rattle.std.proofs.Common.{sym, ◌∙◌}
use Rattle.flat.proofs.Calls.{old_flags, old_opens, new_whole, new_flags, new_opens}
use Rattle.flat.proofs.shelf.FlatShelf.open.Goals as goal

pub invariant_of-self : goal.invariant_of-self
invariant_of-self c =
    let f = c.args.self.now in
    record { fit = f.fit; live = old_flags _ _ _ f.fit f.live c.args.path.now c.in_ok-check_path.ensures.good c.in-Some.r (sym c.find.ensures.first ∙ c.in-Some.is) }

pub returns-in-Some-clause-opened : goal.returns-in-Some-clause-opened
returns-in-Some-clause-opened c =
    let f = c.args.self.now in
    old_opens _ _ _ f.fit f.live c.args.path.now c.in_ok-check_path.ensures.good c.in-Some.r (sym c.find.ensures.first ∙ c.in-Some.is)

pub invariant_of-self-2 : goal.invariant_of-self-2
invariant_of-self-2 c =
    let f = c.args.self.now in
    let absent = sym c.find.ensures.first ∙ c.in_default.is in
    let lowest = sym c.vacant.ensures.first ∙ c.in-Some-vacant.is in
    let good = c.in_ok-check_path.ensures.good in
    record {
      fit = rw (c.label.ensures.bytes, c.label.ensures.limit) (new_whole _ _ _ f.fit f.live c.args.path.now good absent _ lowest);
      live = rw (c.label.ensures.bytes, c.label.ensures.limit) (new_flags _ _ _ f.fit f.live c.args.path.now good absent _ lowest);
    }

pub returns-clause-opened : goal.returns-clause-opened
returns-clause-opened c =
    let f = c.args.self.now in
    let absent = sym c.find.ensures.first ∙ c.in_default.is in
    let lowest = sym c.vacant.ensures.first ∙ c.in-Some-vacant.is in
    rw (c.label.ensures.bytes, c.label.ensures.limit) (new_opens _ _ _ f.fit f.live c.args.path.now c.in_ok-check_path.ensures.good absent _ lowest)
