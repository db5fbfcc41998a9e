-- How many lines of so many legal moves begin at a position, which is what the counts called perft are (this project's own).
use Rattle.std.specs.Prelude.{◌≡◌, ℕ, zero, suc, ◌+◌, List, [], ◌∷◌}
use Rattle.cell_core.specs.declared.step.Move.{Move}
use Rattle.chess_laws.specs.declared.setup.Setup.{Setup}
use Rattle.chess_laws.specs.Moves.{ListsMoves}
use Rattle.chess_laws.specs.Step.{stepped}

-- The moves have counts with this sum.
abbrev pub AddsUp : (Move → ℕ → Type 0) → List Move → ℕ → Type 0
AddsUp Counts [] n = n ≡ 0
AddsUp Counts (m ∷ ms) n = (own : ℕ) × ((rest : ℕ) × (Counts m own × (AddsUp Counts ms rest × (n ≡ own + rest))))

-- Of no move there is one line; of more there are, for each legal move but the null move, those of one fewer from the position behind it.
unfoldable pub IsCount : ℕ → Setup → ℕ → Type 0
IsCount zero p n = n ≡ 1
IsCount (suc depth) p n = (ms : List Move) × (ListsMoves p ms × AddsUp (λ m own. IsCount depth (stepped p m) own) ms n)
