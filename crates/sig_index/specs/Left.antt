-- Which pawns leave their own squares with each move of a main line (this project's own).
use Rattle.std.specs.Prelude.{ℕ, zero, suc, ◌+◌, not, ◌&&◌, List, [], ◌++◌}
use Rattle.std.specs.List.{filter}
use Rattle.chess_laws.specs.Counts.{is_home}
use Rattle.chess_laws.specs.declared.setup.Setup.{Setup}
use Rattle.game_tree.specs.Game.{GameTree}
use Rattle.game_tree.specs.Replay.{position_at}
use Rattle.sig_index.specs.Signature.{all_homes}

-- The home values whose pawns stand at home in the one position and not in the other.
abbrev pub leaving_between : Setup → Setup → List ℕ
leaving_between p q = filter (λ value. is_home p.board value && not (is_home q.board value)) all_homes

-- Those whose pawns stand at home after k moves of the main line and not after k + 1, for each of n numbers k in their order.
abbrev pub left_from : GameTree → ℕ → ℕ → List ℕ
left_from game k zero = []
left_from game k (suc n) = leaving_between (position_at game k) (position_at game (k + 1)) ++ left_from game (k + 1) n
