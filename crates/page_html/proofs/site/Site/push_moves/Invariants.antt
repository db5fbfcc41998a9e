use Rattle.std.proofs.Common.{◌≡◌}
use Rattle.page_html.proofs.site.Site.push_moves.Given as goal

-- The book stays.
abbrev pub invariant-loop-one : goal.invariant-loop-one
invariant-loop-one l = l.self ≡ l.fn.self
