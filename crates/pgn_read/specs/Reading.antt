-- A game while its tokens are read: what the tokens so far say, and what the next one does (PGN standard, 8).
use Rattle.std.specs.Prelude.{ℕ, ◌==◌, nat_lt, nat_le, Bool, true, false, not, slice_index_or, ◌||◌, ◌&&◌, if◌then◌else◌, List, [], ◌∷◌, ◌++◌, length, is_some, Result, Ok, Err, codes}
use Rattle.std.specs.List.{list_any}
use Rattle.cell_core.specs.declared.step.Move.{Move}
use Rattle.chess_laws.specs.declared.setup.Setup.{Setup}
use Rattle.chess_laws.specs.Position.{start_setup}
use Rattle.chess_laws.specs.Step.{stepped}
use Rattle.game_tree.specs.declared.head.Outcome.{Outcome}
use Rattle.game_tree.specs.declared.head.Tag.{Tag}
use Rattle.game_tree.specs.Item as item
use Rattle.game_tree.specs.Building.{Building, added, opening, read_line}
use Rattle.game_tree.specs.Game.{GameTree}
use Rattle.game_tree.specs.Legal.{deepest}
use Rattle.game_tree.specs.TagList.{is_named}
use Rattle.game_tree.specs.TagName.{is_among, roster_names}
use Rattle.pgn_read.specs.declared.item.GameWhat.{GameWhat}
use Rattle.pgn_read.specs.declared.item.GameWhat.TheVariants as what
use Rattle.pgn_read.specs.Turns.{Turn}
use Rattle.chess_text.specs.SanAnswer.{san_answer}
use Rattle.chess_text.specs.FenAnswer.{fen_answer}
use Rattle.pgn_read.specs.Token.{Token}
use Rattle.pgn_read.specs.Token as token

-- The tags so far; whether another token than tags and comments was read; the position at the start; the moves with what belongs
-- to them; and the place in the innermost line and in those round it.
pub record Reading : Type 0 where
  pub tags : List Tag
  pub in_moves : Bool
  pub start : Setup
  pub moves : Building
  pub turn : Turn
  pub outer : List Turn

-- The type of a place in a line, as laws of other crates name it.
abbrev pub LineTurn : Type 0
LineTurn = Turn

abbrev pub turn_at : Setup → Turn
turn_at p = record { before = p; now_at = p }

-- Before the first token.
abbrev pub unread : Reading
unread = record { tags = []; in_moves = false; start = start_setup; moves = opening; turn = turn_at start_setup; outer = [] }

-- What a token does: reading goes on in the same game, the game ends behind the token or before it, or the token is faulty.
pub data Effect : Type 0 where
  goes_on : Reading → Effect
  ends_behind : Outcome → Effect
  ends_before : Effect
  is_faulty : GameWhat → Effect

-- Reading goes on with what was read, or that is the fault.
abbrev pub by_answer : {A E : Type 0} → (A → Reading) → (E → GameWhat) → Result A E → Effect
by_answer behind what (Ok value) = goes_on (behind value)
by_answer behind what (Err fault) = is_faulty (what fault)

-- Whether a variation is open, and whether the innermost line has a move.
abbrev pub is_inside : Reading → Bool
is_inside r = nat_lt 0 (length r.outer)

abbrev pub has_move : Reading → Bool
has_move r = is_some r.moves.current.last

-- ---- tags

abbrev pub has_tag : List ℕ → List Tag → Bool
has_tag name tags = list_any (is_named name) tags

abbrev pub with_tag : List ℕ → List ℕ → Reading → Reading
with_tag name value r = record r { tags = r.tags ++ record { name = name; value = value } ∷ [] }

-- The first FEN tag gives the start (PGN standard, 9.7.2; it counts also without a tag SetUp).
abbrev pub starting : Setup → Reading → Reading
starting p r = if has_tag (codes "FEN") r.tags then r else record r { start = p; turn = turn_at p }

abbrev pub tag_effect : List ℕ → List ℕ → Reading → Effect
tag_effect name value r =
    if is_among roster_names name && has_tag name r.tags then is_faulty what.Tag
    else if nat_lt 240 (length name) || nat_lt 255 (length value) then is_faulty what.TagTooLong
    else if is_named (codes "FEN") (record { name = name; value = value })
    then by_answer (λ p. with_tag (codes "FEN") value (starting p r)) what.Fen (fen_answer value)
    else goes_on (with_tag name value r)

-- A tag inside a variation is a fault, and one behind moves begins the next game (PGN standard, 8.1).
abbrev pub at_tag : Reading → Effect → Effect
at_tag r effect = if is_inside r then is_faulty what.Paren else if r.in_moves then ends_before else effect

-- ---- moves

abbrev pub moving : Reading → Reading
moving r = record r { in_moves = true }

abbrev pub played : Move → Reading → Reading
played m r =
    record (moving r) { moves = added (item.move m) r.moves; turn = record { before = r.turn.now_at; now_at = stepped r.turn.now_at m } }

-- A variation begins at the position before the last move, and ends at that of the line round it.
abbrev pub opened : Reading → Reading
opened r = record (moving r) { moves = added item.opens r.moves; turn = turn_at r.turn.before; outer = r.turn ∷ r.outer }

abbrev pub closed_to : Reading → List Turn → Effect
closed_to r [] = is_faulty what.Paren
closed_to r (turn ∷ outer) = goes_on (record (moving r) { moves = added item.closes r.moves; turn = turn; outer = outer })

-- ---- a token

-- NAGs and variations belong to a move. An end mark inside a variation is skipped.
unfoldable pub effect : Token → Reading → Effect
effect (token.tag name value) r = at_tag r (tag_effect name value r)
effect token.bad_tag r = at_tag r (is_faulty what.Tag)
effect (token.comment text) r = goes_on (record r { moves = added (item.comment text) r.moves })
effect token.open_comment r = is_faulty what.Brace
effect (token.nag n) r = if has_move r then goes_on (record (moving r) { moves = added (item.nag n) r.moves }) else is_faulty what.Token
effect token.opens r =
    if nat_le deepest (length r.outer) then is_faulty what.Depth
    else if has_move r then goes_on (opened r) else is_faulty what.Token
effect token.closes r = closed_to r r.outer
effect (token.ending outcome) r = if is_inside r then goes_on (moving r) else ends_behind outcome
effect token.number r = goes_on (moving r)
effect (token.move text) r = by_answer (λ m. played m r) what.San (san_answer r.turn.now_at text)
effect token.bad r = is_faulty what.Token
effect token.the_end r = if is_inside r then is_faulty what.Paren else ends_before

-- A tag outside variations behind moves belongs to the next game, however long it is.
abbrev pub is_next_game : Reading → List ℕ → Bool
is_next_game r bytes = r.in_moves && (not (is_inside r) && (slice_index_or bytes 0 0 == 91))

-- ---- the end

-- The game that was read.
abbrev pub game_of : Reading → GameTree
game_of r = record { start = r.start; lead = r.moves.current.lead; line = read_line r.moves.current }
