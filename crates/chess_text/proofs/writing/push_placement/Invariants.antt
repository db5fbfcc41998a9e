use Rattle.std.proofs.Common.{◌≡◌, ◌-◌, ◌++◌}
use Rattle.chess_text.specs.Written.{ranks_text, placement_text}
use Rattle.chess_text.proofs.writing.push_placement.Given as goal

-- what is written, with the text of the ranks that are left, is the whole placement
abbrev pub invariant-loop-above : goal.invariant-loop-above
invariant-loop-above l = l.out.items ++ ranks_text (7 - l.above) l.fn.board ≡ l.fn.out.items ++ placement_text l.fn.board
