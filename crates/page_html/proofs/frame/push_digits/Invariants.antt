use Rattle.std.proofs.Common.{◌≡◌, ◌++◌}
use Rattle.page_html.specs.Names.{digits_below}
use Rattle.page_html.proofs.frame.push_digits.Given as goal

-- The digits of the squares so far were added.
abbrev pub invariant-loop-s : goal.invariant-loop-s
invariant-loop-s l = l.out.items ≡ l.fn.out.items ++ digits_below l.board l.s
