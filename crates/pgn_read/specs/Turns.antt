-- A place in a line of moves: the position that it has come to, and the one before its last move, where a variation begins
-- (PGN standard, 8.2.5).
use Rattle.std.specs.Prelude.{◌-◌, List, [], ◌∷◌, length, take, fold, refl}
use Rattle.std.specs.Coded.{Coded, code_by, coded×}
use Rattle.cell_core.specs.declared.step.Move.{Move}
use Rattle.chess_laws.specs.declared.setup.Setup.{Setup}
use Rattle.chess_laws.specs.contracts.setup.Setup as setup
use Rattle.chess_laws.specs.Step.{Legal, stepped}

pub record Turn : Type 0 where
  pub before : Setup
  pub now_at : Setup

abbrev pub coded_turn : Coded Turn
coded_turn =
    code_by (Setup × Setup) (coded× setup.the_row.coded setup.the_row.coded) (λ t. (t.before, t.now_at))
    (λ t. record { before = t.0; now_at = t.1 }) (λ _. refl)

-- Each of these moves is legal behind those before it. Only private functions cite this.
abbrev pub AreLegal : Setup → List Move → Type 0
AreLegal p [] = Unit {0}
AreLegal p (m ∷ moves) = Legal p m × AreLegal (stepped p m) moves

-- The position before the last of these moves: the one from which they go if they are none.
abbrev pub before_last : Setup → List Move → Setup
before_last p moves = fold stepped p (take (length moves - 1) moves)
