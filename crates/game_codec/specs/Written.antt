-- The one written form of a record (this project's own, after Scid's format). Every tag's name is written out, and a
-- start other than the initial position is a FEN. After each move stand its NAGs, its comment and its variations. A
-- line's own comment stands before its first move.
use Rattle.std.specs.Prelude.{ℕ, ◌+◌, Bool, if◌then◌else◌, List, [], ◌∷◌, ◌++◌}
use Rattle.chess_laws.specs.declared.setup.Setup.{Setup}
use Rattle.chess_laws.specs.Position.{is_start}
use Rattle.chess_text.specs.Written.{fen_text}
use Rattle.game_tree.specs.Game.{GameTree}
use Rattle.game_tree.specs.Movetext.{Movetext, end, move, nag, comment, variation}
use Rattle.game_tree.specs.Promotions.{has_promotion, has_underpromotion}
use Rattle.game_tree.specs.Written.{movetext_of_game}
use Rattle.game_tree.specs.declared.head.Tag.{Tag}
use Rattle.move_codec.specs.Numbers.{Numbered}
use Rattle.move_codec.specs.Packed.{encoding}
use Rattle.game_codec.specs.TagSpelling.{counted}
use Rattle.game_codec.specs.Start.{own_start, standard_start}
use Rattle.game_codec.specs.Place.{numbered_after}
use Rattle.game_codec.specs.Texts.{texts_of, ended}
use Rattle.game_codec.specs.declared.fault.EncodeError.{EncodeError}
use Rattle.game_codec.specs.declared.fault.EncodeError.TheVariants as error

-- The tags with their names written out.
abbrev pub tags_text : List Tag → List ℕ
tags_text [] = []
tags_text (tag ∷ tags) = counted tag.name ++ (counted tag.value ++ tags_text tags)

-- Bit 1 of the flags tells whether the game has a promotion, and bit 2 one to another man than a queen.
abbrev pub promotion_flags : GameTree → ℕ
promotion_flags game = (if has_promotion game then 2 else 0) + (if has_underpromotion game then 4 else 0)

-- The packed moves and marks of a movetext, by the position before the last move and the position that was reached.
abbrev pub moves_text : Numbered → Numbered → Movetext → List ℕ
moves_text before here end = []
moves_text before here (move m s) = encoding here m ++ moves_text here (numbered_after here m) s
moves_text before here (nag n s) = 11 ∷ n ∷ moves_text before here s
moves_text before here (comment text s) = 12 ∷ moves_text before here s
moves_text before here (variation inner s) = 13 ∷ moves_text before before inner ++ 14 ∷ moves_text before here s

-- The moves from a start, the end of the game, and the texts of the comments.
abbrev pub body_text : Numbered → Movetext → List ℕ
body_text start s = moves_text start start s ++ 15 ∷ ended (texts_of s)

-- The start with the numbers of its men, by whether it is the initial position.
abbrev pub numbered_start : Bool → Setup → Numbered
numbered_start initial p = if initial then standard_start else own_start p

-- The flags, and behind them the FEN of a start other than the initial position with a zero byte.
abbrev pub start_text : Bool → Setup → ℕ → List ℕ
start_text initial p flags = if initial then flags ∷ [] else (1 + flags) ∷ fen_text p ++ 0 ∷ []

-- The written form of a game with its tags: the tags and a zero byte, the flags and the start, the moves, and the texts.
abbrev pub written_record : List Tag → GameTree → List ℕ
written_record tags game =
    tags_text tags
    ++ 0 ∷ (start_text (is_start game.start) game.start (promotion_flags game)
    ++ body_text (numbered_start (is_start game.start) game.start) (movetext_of_game game))

-- The greatest length of a record, in bytes.
abbrev pub longest : ℕ
longest = 131071

-- A record that would be too long has a length of which this holds.
abbrev pub IfTooLong : (ℕ → Type 0) → EncodeError → Type 0
IfTooLong Holds (error.TooLong n) = Holds n
IfTooLong Holds error.Memory = Unit {0}
