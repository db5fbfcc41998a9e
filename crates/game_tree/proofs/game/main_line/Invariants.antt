use Rattle.std.proofs.Common.{◌≡◌, ◌++◌, drop}
use Rattle.game_tree.specs.Tree.{line_of, moves_of}
use Rattle.game_tree.proofs.game.main_line.Given as goal

abbrev pub invariant-loop-node : goal.invariant-loop-node
invariant-loop-node l = l.moves.items ++ moves_of (line_of (drop l.node-index l.line)) ≡ moves_of (line_of l.line)
