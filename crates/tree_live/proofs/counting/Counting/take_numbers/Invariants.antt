use Rattle.std.proofs.Common.{◌≡◌, take}
use Rattle.tree_live.specs.Watching.{by_marks}
use Rattle.tree_live.specs.declared.marks.Marks.TheVariants.{Numbers}
use Rattle.tree_live.proofs.counting.Counting.take_numbers.Given as goal

-- The games so far are in or out by their marks.
abbrev pub invariant-loop-i : goal.invariant-loop-i
invariant-loop-i l = l.self ≡ by_marks Numbers (take l.i l.to) l.fn.self
