-- Where a walk is in the bytes of a record, and what it passes. No public contract cites these words.
use Rattle.std.specs.Prelude.{◌≡◌, ℕ, zero, suc, ◌+◌, ◌-◌, ◌<◌, ◌≤◌, ◌^◌, ◌⊎◌, List, [], ◌∷◌, length, drop}
use Rattle.cell_core.specs.declared.step.Move.{Move}
use Rattle.game_tree.specs.Game.{GameTree}
use Rattle.game_tree.specs.Movetext.{Movetext, meaning}
use Rattle.game_tree.specs.Replay.{main_moves, plies_of, position_at}
use Rattle.game_tree.specs.Tree.{moves_of}
use Rattle.game_tree.specs.declared.head.Tag.{Tag}
use Rattle.move_codec.specs.Numbers.{Numbered}
use Rattle.game_codec.specs.Place.{Place, IsMoveDue}
use Rattle.game_codec.specs.Moves.{SpellsMoves}
use Rattle.game_codec.specs.Record.{IsRecord}
use Rattle.game_codec.specs.declared.passing.Front.{Front}
use Rattle.game_codec.specs.declared.passing.Front.TheVariants as front

-- From these bytes on a main line goes on with these moves, at this position.
pub record GoesOn (here : Numbered) (moves : List Move) (bytes : List ℕ) : Type 0 where
  pub place : Place
  pub movetext : Movetext
  pub behind : List ℕ
  pub main : place.depth ≡ 0
  pub here_is : place.here ≡ here
  pub spells : SpellsMoves place movetext bytes behind
  pub moves_are : moves_of (meaning movetext).line ≡ moves

-- What a walk has done of a game, and what is ahead of it.
pub record IsBehind (game : GameTree) (here : Numbered) (ply : ℕ) (ahead : List ℕ) : Type 0 where
  pub within : ply ≤ plies_of game
  pub position : here.position ≡ position_at game ply
  pub line : GoesOn here (drop ply (main_moves game)) ahead

-- If the bytes are a record, the walk is in the main line of its game.
pub record IsWalk (bytes ahead : List ℕ) (here : Numbered) (ply : ℕ) : Type 0 where
  pub few : length bytes < 2 ^ 32
  pub left : ply + length ahead ≤ length bytes
  pub tail : ahead ≡ drop (length bytes - length ahead) bytes
  pub follows : (tags : List Tag) (game : GameTree) → IsRecord bytes tags game → IsBehind game here ply ahead

-- What stands at the front of a main line: a move, the end of the game, or so many bytes that are passed by their marks.
abbrev pub IsFront : List ℕ → Front → Type 0
IsFront bytes front.Move = IsMoveDue bytes
IsFront bytes front.End = (here : Numbered) (moves : List Move) → GoesOn here moves bytes → moves ≡ []
IsFront bytes (front.Passes used) =
    (0 < used) × (used ≤ length bytes) × ((here : Numbered) (moves : List Move) → GoesOn here moves bytes → GoesOn here moves (drop used bytes))

-- The bytes begin with what is left of a variation, and these bytes follow it. Of a move its second byte may be left.
abbrev pub AtItem : Place → Movetext → List ℕ → List ℕ → Type 0
AtItem p s bytes behind =
    SpellsMoves p s bytes behind
    ⊎ ((byte : ℕ) × ((later : List ℕ) × ((bytes ≡ byte ∷ later) × ((64 ≤ byte) × SpellsMoves p s later behind))))

pub record IsInside (bytes behind : List ℕ) : Type 0 where
  pub place : Place
  pub movetext : Movetext
  pub inner : 0 < place.depth
  pub spells : AtItem place movetext bytes behind

-- The bytes begin with what is left of so many variations, each inside the next, and these bytes follow them.
abbrev pub Within : ℕ → List ℕ → List ℕ → Type 0
Within zero bytes behind = bytes ≡ behind
Within (suc depth) bytes behind = (later : List ℕ) × (IsInside bytes later × Within depth later behind)
