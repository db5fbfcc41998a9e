-- What the tokens of an item say of moves, and which game that is (PGN standard, 8.2).
use Rattle.std.specs.Prelude.{◌≡◌, List, [], ◌∷◌, ◌++◌, Result, Ok, Err}
use Rattle.pgn_read.specs.Lexing.{lexed}
use Rattle.cell_core.specs.declared.step.Move.{Move}
use Rattle.chess_text.specs.declared.fault.SanFault.{SanFault}
use Rattle.chess_text.specs.SanAnswer.{san_answer}
use Rattle.game_tree.specs.Game.{GameTree}
use Rattle.game_tree.specs.Item.{Item}
use Rattle.game_tree.specs.Item as item
use Rattle.game_tree.specs.Movetext.{Movetext, items_of, meaning}
use Rattle.pgn_read.specs.Items.{all_spots, effect_at, first_token}
use Rattle.pgn_read.specs.Reading.{Effect, Reading, ends_before, ends_behind, goes_on, is_faulty, unread}
use Rattle.pgn_read.specs.Text.{At}
use Rattle.pgn_read.specs.Token.{Token}
use Rattle.pgn_read.specs.Token as token

-- The move that its text names.
abbrev pub move_said : Result Move SanFault → List Item
move_said (Ok m) = item.move m ∷ []
move_said (Err fault) = []

-- What a token says: the move that its text names in the position that was reached, a NAG, a comment, or a bracket of a variation. Tags,
-- numbers and end marks say nothing of moves.
abbrev pub said : Token → Reading → List Item
said (token.comment text) r = item.comment text ∷ []
said (token.nag n) r = item.nag n ∷ []
said token.opens r = item.opens ∷ []
said token.closes r = item.closes ∷ []
said (token.move text) r = move_said (san_answer r.turn.now_at text)
said t r = []

-- What the tokens of an item say one after the other, up to its end.
abbrev pub said_before : Token → Reading → (Reading → List Item) → Effect → List Item
said_before t r later (goes_on s) = said t r ++ later s
said_before t r later (ends_behind outcome) = []
said_before t r later ends_before = []
said_before t r later (is_faulty what) = []

unfoldable pub all_said : Reading → List At → List Item
all_said r [] = []
all_said r (spot ∷ more) = said_before (lexed spot.bytes).token r (λ s. all_said s more) (effect_at r spot)

-- What the tokens of the item from here on say.
abbrev pub said_at : At → List Item
said_at a = all_said unread (all_spots (first_token a))

-- These items are those of a movetext, and the game is what it means.
abbrev pub IsMeant : List Item → GameTree → Type 0
IsMeant items game = (s : Movetext) × ((items ≡ items_of s) × ((game.lead ≡ (meaning s).comment) × (game.line ≡ (meaning s).line)))
