-- The tag pairs of a game in the order in which they are written, one a line (PGN standard, 8.1).
use Rattle.std.specs.Prelude.{ℕ, ◌/◌, ◌%◌, ◌==◌, ◌||◌, Bool, if◌then◌else◌, List, [], ◌∷◌, ◌++◌, flat_map, codes}
use Rattle.std.specs.Fmt.{decimal}
use Rattle.cell_core.specs.declared.man.Colour.{Colour}
use Rattle.cell_core.specs.declared.man.Colour.TheVariants.{White, Black}
use Rattle.chess_text.specs.Written.{fen_text, letter_where}
use Rattle.game_tree.specs.declared.date.Date.{Date}
use Rattle.game_tree.specs.declared.head.Head.{Head}
use Rattle.game_tree.specs.declared.head.Rating.{Rating}
use Rattle.game_tree.specs.declared.head.Tag.{Tag}
use Rattle.game_tree.specs.Date.{date_text, is_unknown}
use Rattle.game_tree.specs.Eco.{eco_text}
use Rattle.game_tree.specs.Game.{GameTree, has_own_start}
use Rattle.game_tree.specs.Marks.{mark_letters}
use Rattle.game_tree.specs.Outcome.{outcome_text}
use Rattle.game_tree.specs.TagName.{rating_tag}

-- A byte of a value, with a backslash before it if it is a quotation mark or a backslash (PGN standard, 7).
abbrev pub escaped_byte : ℕ → List ℕ
escaped_byte byte = if (byte == 34) || (byte == 92) then 92 ∷ byte ∷ [] else byte ∷ []

-- One pair on its line, as `[Event "Vienna"]` (PGN standard, 8.1).
abbrev pub tag_text : Tag → List ℕ
tag_text tag = 91 ∷ tag.name ++ (32 ∷ 34 ∷ flat_map escaped_byte tag.value ++ (34 ∷ 93 ∷ 10 ∷ []))

abbrev pub pair : List ℕ → List ℕ → Tag
pair said text = record { name = said; value = text }

-- The seven tags that every game has (PGN standard, 8.1.1).
abbrev pub roster : Head → List Tag
roster head =
    pair (codes "Event") head.event
    ∷ pair (codes "Site") head.site
    ∷ pair (codes "Date") (date_text head.date)
    ∷ pair (codes "Round") head.round
    ∷ pair (codes "White") head.white
    ∷ pair (codes "Black") head.black
    ∷ pair (codes "Result") (outcome_text head.result)
    ∷ []

-- A side's rating under the name of its kind, if there is one (PGN standard, 9.1.2; the kinds are Scid's).
abbrev pub rating_pairs : Colour → Rating → List Tag
rating_pairs side rating = if rating.value == 0 then [] else pair (rating_tag side rating.kind) (decimal rating.value) ∷ []

-- The opening code, if there is one (PGN standard, 9.3.1).
abbrev pub eco_pairs : ℕ → List Tag
eco_pairs eco = if eco == 0 then [] else pair (codes "ECO") (eco_text eco) ∷ []

-- The event date, if there is one (PGN standard, 9.2.1).
abbrev pub event_date_pairs : Date → List Tag
event_date_pairs date = if is_unknown date then [] else pair (codes "EventDate") (date_text date) ∷ []

-- The letters whose bits are set, the first letter's bit being the lowest (this project's own).
abbrev pub letters_set : List ℕ → ℕ → List ℕ
letters_set [] marks = []
letters_set (letter ∷ letters) marks = letter_where (marks % 2 == 1) letter ++ letters_set letters (marks / 2)

-- The letters of a game's marks: D if it is marked as deleted, and then those of the other marks.
unfoldable pub flags_text : Bool → ℕ → List ℕ
flags_text deleted marks = letter_where deleted 68 ++ letters_set mark_letters marks

-- The marks, if there are any (after Scid).
abbrev pub flags_pairs : List ℕ → List Tag
flags_pairs [] = []
flags_pairs (letter ∷ letters) = pair (codes "ScidFlags") (letter ∷ letters) ∷ []

-- A start other than the initial position (PGN standard, 9.7).
abbrev pub start_pairs : GameTree → List Tag
start_pairs game = if has_own_start game then pair (codes "SetUp") (codes "1") ∷ pair (codes "FEN") (fen_text game.start) ∷ [] else []

-- All tags of a game: the roster, what the head has besides, the start, and the other tags.
abbrev pub tags_of : Head → GameTree → List Tag
tags_of head game =
    roster head ++ (rating_pairs White head.white_rating ++ (rating_pairs Black head.black_rating
    ++ (eco_pairs head.eco ++ (event_date_pairs head.event_date ++ (flags_pairs (flags_text head.deleted head.marks)
    ++ (start_pairs game ++ head.tags))))))
