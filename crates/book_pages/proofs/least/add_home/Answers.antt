use Rattle.std.proofs.Common.{◌≡◌, true, List, ℕ, sym, ◌∙◌, subst, arith}
use Rattle.std.specs.List.{list_any}
use Rattle.book_pages.specs.Keeping.{is_part}
use Rattle.book_pages.proofs.HomeLemmas.{homes_stay, part_added, part_there}
use Rattle.book_pages.proofs.least.add_home.Goals as goal

pub returns-then-has_part-clause-has : goal.returns-then-has_part-clause-has
returns-then-has_part-clause-has c =
    part_there c.args.homes.now.items c.args.set
    (subst (λ (l : List ℕ). true ≡ list_any (is_part c.args.set) l) c.as_slice.ensures.value (sym c.if-has_part.true ∙ c.has_part.ensures.any))

pub returns-clause-stay : goal.returns-clause-stay
returns-clause-stay c = homes_stay c.args.homes.now.items c.push.new.self.items c.args.set c.in_ok-push.ensures.items

pub returns-clause-has : goal.returns-clause-has
returns-clause-has c = part_added c.args.homes.now.items c.push.new.self.items c.args.set (omega (arith, c.ranges.set)) c.in_ok-push.ensures.items
