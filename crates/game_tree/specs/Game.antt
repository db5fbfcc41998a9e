-- A game as contracts see it (PGN standard, 8.2).
use Rattle.std.specs.Prelude.{ℕ, Bool, not, List, Option, refl}
use Rattle.std.specs.Coded.{Coded, code_by, coded×, coded_ℕ, coded_list, coded_option}
use Rattle.chess_laws.specs.declared.setup.Setup.{Setup}
use Rattle.chess_laws.specs.contracts.setup.Setup as setup
use Rattle.chess_laws.specs.Position.{is_start}
use Rattle.game_tree.specs.Tree.{Line}
use Rattle.game_tree.specs.TreeCode.{coded_line}

-- A start position, an optional comment at the start, and a line (PGN standard, 8.2).
pub record GameTree : Type 0 where
  pub start : Setup
  pub lead : Option (List ℕ)
  pub line : Line

-- Whether it has a start of its own, other than the initial position.
abbrev pub has_own_start : GameTree → Bool
has_own_start game = not (is_start game.start)

abbrev pub coded_game : Coded GameTree
coded_game =
    code_by (Setup × (Option (List ℕ) × Line)) (coded× setup.the_row.coded (coded× (coded_option (coded_list coded_ℕ)) coded_line))
    (λ g. (g.start, (g.lead, g.line)))
    (λ t. record { start = t.0; lead = t.1.0; line = t.1.1 })
    (λ _. refl)
