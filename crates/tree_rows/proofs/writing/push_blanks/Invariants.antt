use Rattle.std.proofs.Common.{◌≡◌, ◌++◌, replicate}
use Rattle.tree_rows.proofs.writing.push_blanks.Given as goal

-- So many blanks stand behind the text.
abbrev pub invariant-loop-i : goal.invariant-loop-i
invariant-loop-i l = l.into.items ≡ l.initial.into.items ++ replicate l._i 32
