-- The game of a record, and the end of its main line.
use Rattle.std.proofs.Common.{◌≡◌, ◌≤◌, ℕ, List, None, subst, sym, inl, inr}
use Rattle.std.specs.Prelude.{slice_get}
use Rattle.std.proofs.lemmas.Option.{slice_get_cases}
use Rattle.chess_laws.specs.Position.{Sound}
use Rattle.game_codec.specs.Record.{IsRecord}
use Rattle.game_codec.proofs.AnswerLaws.{is-legal}
use Rattle.game_codec.proofs.RecordAnswerLaws.{to_spelled}
use Rattle.game_codec.proofs.StartLaws.{BeginsStart-Sound}
use Rattle.game_tree.specs.Game.{GameTree}
use Rattle.game_tree.specs.Legal.{IsLegalGame}
use Rattle.game_tree.specs.Replay.{main_moves, plies_of}
use Rattle.game_tree.specs.declared.head.Tag.{Tag}

-- The game is legal, and its start keeps the rules of a position.
pub game_legal : (bytes : List ℕ) (tags : List Tag) (game : GameTree) → IsRecord bytes tags game → IsLegalGame game
game_legal = is-legal

pub game_sound : (bytes : List ℕ) (tags : List Tag) (game : GameTree) → IsRecord bytes tags game → Sound game.start
game_sound bytes tags game is =
    let r = to_spelled bytes tags game is in
    subst (λ (g : GameTree). Sound g.start) (sym r.game_is) (BeginsStart-Sound r.behind_tags r.start r.behind_start r.then_start)

-- Where there is no next move, the line ends.
pub no_next : (game : GameTree) (k : ℕ) → slice_get (main_moves game) k ≡ None → plies_of game ≤ k
no_next game k none = elim (slice_get_cases (main_moves game) k).1 [
  | inl at ↦ absurd (cc (none, at.2))
  | inr past ↦ past.0
]
