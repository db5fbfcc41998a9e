use Rattle.std.proofs.Common.{◌≡◌, ◌≤◌, ◌+◌, length, IsTrue, [], option_map}
use Rattle.base_files.specs.Told.{Tells}
use Rattle.pgn_read.specs.Items.{item_at}
use Rattle.pgn_read.specs.Legality.{IsLegal}
use Rattle.pgn_read.specs.Said.{IsBalanced}
use Rattle.pgn_read.specs.Readers.{ahead}
use Rattle.pgn_read.proofs.reader.read_game.Given as goal

-- What is left is the same item behind what was read of it.
abbrev pub invariant-tokens : goal.invariant-tokens
invariant-tokens g l = record {
  item : option_map (item_at l.fn.game) (ahead l.fn.window (g.S.Source.left l.fn.source)) ≡ option_map (item_at l.game) (ahead l.window (g.S.Source.left l.source));
  told : IsTrue l.window.ended → Tells (g.S.Source.left l.source) [];
  balanced : IsBalanced l.game;
  legal : IsLegal l.game;
  spends : g.S.Source.budget l.source ≤ g.S.Source.budget l.fn.source;
  faults : g.S.Source.faults l.fn.source ≤ g.S.Source.faults l.source;
  same : g.S.Source.origin l.source ≡ g.S.Source.origin l.fn.source;
}

-- Each token is paid from the budget.
abbrev pub decreases-tokens : goal.decreases-tokens
decreases-tokens g l = g.S.Source.budget l.source + length l.window.unread
