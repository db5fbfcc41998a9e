-- The items of a text: its games, and the first fault of each that is none (PGN standard, 8; the faults and where reading goes on
-- are this project's own).
use Rattle.std.specs.Prelude.{◌≡◌, ℕ, zero, suc, ◌-◌, ◌==◌, nat_lt, Bool, not, ◌&&◌, if◌then◌else◌, List, [], ◌∷◌, length, Option, Some, None, codes, ◌||◌}
use Rattle.std.specs.Option.{option_map_or}
use Rattle.pgn_read.specs.Lexing.{lexed, size}
use Rattle.game_tree.specs.declared.head.Outcome.{Outcome}
use Rattle.pgn_read.specs.declared.place.Place.{Place}
use Rattle.pgn_read.specs.declared.item.GameWhat.{GameWhat}
use Rattle.pgn_read.specs.declared.item.GameWhat.TheVariants.{TooLong}
use Rattle.pgn_read.specs.declared.item.Item.{Item}
use Rattle.pgn_read.specs.declared.item.Item.TheVariants.{Good, Bad}
use Rattle.pgn_read.specs.Place.{next_place, first_place}
use Rattle.pgn_read.specs.Bytes.{begins}
use Rattle.pgn_read.specs.Text.{At, here, longest, behind_mark, behind_token, skipped, spots}
use Rattle.pgn_read.specs.Heads.{head_from}
use Rattle.pgn_read.specs.Reading.{Reading, Effect, goes_on, ends_behind, ends_before, is_faulty, unread, effect, is_next_game, game_of}

-- An item, if there is one, and where reading goes on behind it.
pub record Next : Type 0 where
  pub item : Option Item
  pub at : At

abbrev pub next : Option Item → At → Next
next item a = record { item = item; at = a }

-- ---- behind a fault

-- A line on which reading goes on: one that begins with a tag Event, and begins behind the item's first byte.
abbrev pub begins_game : Place → ℕ → List ℕ → Bool
begins_game place room bytes = (place.column == 1) && (not (room == longest) && begins (codes "[Event \"") bytes)

-- The first such line that does not begin before this place, or the end of the text.
abbrev pub resumed : Place → ℕ → List ℕ → At
resumed place room [] = here place room []
resumed place room (byte ∷ bytes) =
    if begins_game place room (byte ∷ bytes) then here place room (byte ∷ bytes)
    else resumed (next_place place byte) (room - 1) bytes

abbrev pub faulty : GameWhat → At → Next
faulty what a =
    next (Some (Bad (record { line = a.place.line; column = a.place.column; what = what }))) (resumed a.place a.room a.bytes)

-- ---- the tokens of an item

-- A game that was read, if anything but comments was.
abbrev pub ended : Reading → Option Outcome → At → Next
ended r mark a = next (Some (Good (head_from r.tags mark) (game_of r))) a

abbrev pub ended_before : Reading → At → Next
ended_before r a = if r.in_moves || nat_lt 0 (length r.tags) then ended r None a else next None a

-- A token that ends further than the limit from the item's first byte is too long, whatever else it is.
abbrev pub effect_at : Reading → At → Effect
effect_at r a =
    if is_next_game r a.bytes then ends_before
    else if nat_lt a.room (size a.bytes) then is_faulty TooLong
    else effect (lexed a.bytes).token r

-- The item that the tokens at these places are, behind what was read.
abbrev pub by_effect : Reading → At → (Reading → Next) → Effect → Next
by_effect r a later (goes_on s) = later s
by_effect r a later (ends_behind outcome) = ended r (Some outcome) (behind_token a)
by_effect r a later ends_before = ended_before r a
by_effect r a later (is_faulty what) = faulty what a

unfoldable pub item_from : Reading → List At → Next
item_from r [] = next None (here first_place 0 [])
item_from r (a ∷ more) = by_effect r a (λ s. item_from s more) (effect_at r a)

-- Where the tokens of a text stand from here on.
abbrev pub all_spots : At → List At
all_spots a = spots (suc (length a.bytes)) a

-- ---- items

-- The first token of an item, from whose first byte its length counts.
abbrev pub first_token : At → At
first_token a = record (skipped (behind_mark a)) { room = longest }

-- The next item from here on.
unfoldable pub next_item : At → Next
next_item a = item_from unread (all_spots (first_token a))

-- The item from here on, behind what was read.
abbrev pub item_at : Reading → At → Next
item_at r a = item_from r (all_spots a)

-- The items from here on, to the end of the text.
abbrev pub AreItems : At → List Item → Type 0
AreItems a [] = (next_item a).item ≡ None
AreItems a (item ∷ items) = ((next_item a).item ≡ Some item) × AreItems (next_item a).at items

-- The items from here on, if there are at most so many.
abbrev pub items_at : ℕ → At → List Item
items_at zero a = []
items_at (suc most) a = option_map_or (λ item. item ∷ items_at most (next_item a).at) (next_item a).item []

-- The beginning of a text.
abbrev pub text_start : List ℕ → At
text_start text = here first_place longest text

-- The text has these items.
abbrev pub PgnReads : List ℕ → List Item → Type 0
PgnReads text items = AreItems (text_start text) items

-- These items: each has a byte at least.
abbrev pub items_of : List ℕ → List Item
items_of text = items_at (length text) (text_start text)
