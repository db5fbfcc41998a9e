-- The lines that are open while a game is read are chains of legal moves. No public contract cites these words.
use Rattle.std.specs.Prelude.{◌≡◌, ℕ, ◌+◌, ◌≤◌, false, List, [], ◌∷◌, length, Option, None, Some, ⊤}
use Rattle.chess_laws.specs.declared.setup.Setup.{Setup}
use Rattle.chess_laws.specs.Step.{Step, stepped}
use Rattle.game_tree.specs.Tree.{Played, depth_within}
use Rattle.game_tree.specs.Building.{Open, Building}
use Rattle.game_tree.specs.Legal.{IsComment, AreLegalBranches, deepest}
use Rattle.pgn_read.specs.Turns.{Turn}
use Rattle.pgn_read.specs.declared.step.End.{End}
use Rattle.pgn_read.specs.declared.step.End.TheVariants as end
use Rattle.pgn_read.specs.declared.step.Step.{Step as Does}
use Rattle.pgn_read.specs.declared.step.Step.TheVariants as does
use Rattle.pgn_read.specs.Reading.{Reading}

-- A move from this position in a line inside so many others, with its variations.
pub record IsPlayed (level : ℕ) (p : Setup) (x : Played) : Type 0 where
  pub step : Step p x.mv (stepped p x.mv)
  pub comment : IsComment x.comment
  pub variations : AreLegalBranches p x.variations
  pub depth : level + depth_within x.variations ≤ deepest

-- These moves lead from a position to another.
abbrev pub Leads : ℕ → Setup → List Played → Setup → Type 0
Leads level p [] q = q ≡ p
Leads level p (x ∷ xs) q = IsPlayed level p x × Leads level (stepped p x.mv) xs q

-- With the last move, if there is one, they lead to this place.
abbrev pub ComesTo : ℕ → Setup → List Played → Option Played → Turn → Type 0
ComesTo level p done None turn = Leads level p done turn.now_at
ComesTo level p done (Some x) turn = Leads level p done turn.before × (IsPlayed level turn.before x × (turn.now_at ≡ stepped turn.before x.mv))

-- An open line that begins at a position.
pub record IsLine (level : ℕ) (p : Setup) (line : Open) (turn : Turn) : Type 0 where
  pub lead : IsComment line.lead
  pub level_within : level ≤ deepest
  pub moves : ComesTo level p line.done line.last turn

-- The open lines from the inside out: each but the outermost begins before the last move of the one round it.
abbrev pub AreLines : Setup → Open → Turn → List Open → List Turn → Type 0
AreLines start line turn [] [] = IsLine 0 start line turn
AreLines start line turn [] (place ∷ places) = ⊥
AreLines start line turn (round ∷ outer) [] = ⊥
AreLines start line turn (round ∷ outer) (place ∷ places) =
    IsLine (length (place ∷ places)) place.before line turn × AreLines start round place outer places

-- No move was read.
pub record HasNoMoves (moves : Building) : Type 0 where
  pub done : moves.current.done ≡ []
  pub last : moves.current.last ≡ None
  pub outer : moves.outer ≡ []

-- What was read is legal. Before the first token that is neither a tag nor a comment there are no moves.
pub record IsLegal (r : Reading) : Type 0 where
  pub lines : AreLines r.start r.moves.current r.turn r.moves.outer r.outer
  pub no_moves : r.in_moves ≡ false → HasNoMoves r.moves

-- It is so where reading goes on, and where a game ends.
abbrev pub EndsLegally : End → Reading → Type 0
EndsLegally (end.Behind outcome) r = IsLegal r
EndsLegally end.Before r = IsLegal r
EndsLegally (end.Faulty what) r = ⊤

abbrev pub StepsLegally : Does → Reading → Type 0
StepsLegally does.GoesOn r = IsLegal r
StepsLegally (does.Ends e) r = EndsLegally e r
