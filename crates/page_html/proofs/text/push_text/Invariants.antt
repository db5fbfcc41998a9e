use Rattle.std.proofs.Common.{◌≡◌, ◌++◌, length}
use Rattle.page_html.specs.Text.{written}
use Rattle.page_html.proofs.text.push_text.Given as goal

-- What was added and what is left to add are the whole text.
abbrev pub invariant-loop-rest : goal.invariant-loop-rest
invariant-loop-rest l = l.out.items ++ written l.rest ≡ l.fn.out.items ++ written l.text

abbrev pub decreases-loop-rest : goal.decreases-loop-rest
decreases-loop-rest l = length l.rest
