-- How a movetext is spelled by tokens (PGN standard, 8.2): moves by texts that are read as them, NAGs, comments, variations between
-- their brackets, and numbers wherever they stand.
use Rattle.std.specs.Prelude.{◌≡◌, ◌≤◌, ◌<◌, ◌==◌, ⊤, ℕ, suc, Bool, true, false, List, [], ◌∷◌, ◌++◌, slice_index_or, Ok}
use Rattle.pgn_read.specs.Lexing.{lexed, size}
use Rattle.cell_core.specs.declared.step.Move.{Move}
use Rattle.chess_laws.specs.declared.setup.Setup.{Setup}
use Rattle.chess_laws.specs.Step.{stepped}
use Rattle.chess_text.specs.SanAnswer.{san_answer}
use Rattle.game_tree.specs.declared.head.Tag.{Tag}
use Rattle.game_tree.specs.Game.{GameTree}
use Rattle.game_tree.specs.Legal.{deepest}
use Rattle.game_tree.specs.Movetext.{Movetext, meaning}
use Rattle.game_tree.specs.Movetext as movetext
use Rattle.pgn_read.specs.Reading.{Reading, turn_at, unread}
use Rattle.pgn_read.specs.Text.{At}
use Rattle.pgn_read.specs.Token.{Token}
use Rattle.pgn_read.specs.Token as token

-- A movetext as it is spelled, item by item. A move has the text by which it is spelled.
pub data Spelling : Type 0 where
  end : Spelling
  number : Spelling → Spelling
  move : Move → List ℕ → Spelling → Spelling
  nag : ℕ → Spelling → Spelling
  comment : List ℕ → Spelling → Spelling
  variation : Spelling → Spelling → Spelling

abbrev pub tokens_by : Spelling → List Token
tokens_by end = []
tokens_by (number s) = token.number ∷ tokens_by s
tokens_by (move m text s) = token.move text ∷ tokens_by s
tokens_by (nag n s) = token.nag n ∷ tokens_by s
tokens_by (comment text s) = token.comment text ∷ tokens_by s
tokens_by (variation inner s) = token.opens ∷ (tokens_by inner ++ (token.closes ∷ tokens_by s))

-- The movetext that is spelled.
abbrev pub movetext_by : Spelling → Movetext
movetext_by end = movetext.end
movetext_by (number s) = movetext_by s
movetext_by (move m text s) = movetext.move m (movetext_by s)
movetext_by (nag n s) = movetext.nag n (movetext_by s)
movetext_by (comment text s) = movetext.comment text (movetext_by s)
movetext_by (variation inner s) = movetext.variation (movetext_by inner) (movetext_by s)

-- The texts are those of the moves, in a line inside so many others that has a move or has none. The positions are the
-- one before its last move, where a variation begins, and the one that it has come to. NAGs and variations stand behind
-- moves.
abbrev pub IsSpelling : ℕ → Setup → Setup → Bool → Spelling → Type 0
IsSpelling level before here moved end = ⊤
IsSpelling level before here moved (number s) = IsSpelling level before here moved s
IsSpelling level before here moved (move m text s) = (san_answer here text ≡ Ok m) × IsSpelling level here (stepped here m) true s
IsSpelling level before here moved (nag n s) = (moved ≡ true) × IsSpelling level before here moved s
IsSpelling level before here moved (comment text s) = IsSpelling level before here moved s
IsSpelling level before here moved (variation inner s) =
    ((moved ≡ true) × (level < deepest)) × (IsSpelling (suc level) before before false inner × IsSpelling level before here moved s)

-- A token where it stands, which ends within the greatest length of its game's text and begins no tag.
pub record IsSpot (t : Token) (spot : At) : Type 0 where
  pub token : (lexed spot.bytes).token ≡ t
  pub fits : size spot.bytes ≤ spot.room
  pub no_tag : (slice_index_or spot.bytes 0 0 == 91) ≡ false

-- These tokens stand first.
abbrev pub StandFirst : List Token → List At → Type 0
StandFirst [] spots = ⊤
StandFirst (t ∷ ts) [] = ⊥
StandFirst (t ∷ ts) (spot ∷ spots) = IsSpot t spot × StandFirst ts spots

-- A game of which its tags were read.
abbrev pub behind_tags : List Tag → Setup → Reading
behind_tags tags start = record unread { tags = tags; start = start; turn = turn_at start }

-- The game from this position that a movetext means.
abbrev pub game_meant : Setup → Movetext → GameTree
game_meant start s = record { start = start; lead = (meaning s).comment; line = (meaning s).line }
