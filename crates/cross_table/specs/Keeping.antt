-- What the functions of this crate keep on their way: names by their places (this project's own).
use Rattle.std.specs.Prelude.{ℕ, zero, suc, ◌+◌, ◌==◌, nat_lt, Bool, ◌&&◌, ◌||◌, if◌then◌else◌, List, [], ◌∷◌, ◌++◌, Option, None, Some, map, filter, count_by, codes, slice_index_or}
use Rattle.std.specs.Fmt.{decimal}
use Rattle.std.specs.List.{filter_map, flat_map, fold, list_any, position_or_len, sum_by}
use Rattle.std.specs.Ordering.{nat_cmp, is_lt}
use Rattle.std.specs.Cmp.Lexicographic.{slice_cmp}
use Rattle.std.specs.Str.{bytes_eq}
use Rattle.game_tree.specs.declared.head.Head.{Head}
use Rattle.cross_table.specs.declared.played.Played.{Played}
use Rattle.cross_table.specs.declared.played.Met.{Met}
use Rattle.cross_table.specs.declared.score.Score.TheVariants.{Won, Lost}
use Rattle.cross_table.specs.Crosstable.{Pairing, is_of, score_by, half_points_of, is_known, with_name, points_text, sign, or_dot, CrossLine, Crosstable}

-- What is read of a game.
abbrev pub pairing_of : Head → Pairing
pairing_of head = record { white = head.white; black = head.black; result = head.result }

-- The front of a line: the rank, the name, its points and its games.
abbrev pub front_text : ℕ → List ℕ → ℕ → ℕ → List ℕ
front_text rank name half games = decimal rank ++ (32 ∷ name ++ (32 ∷ points_text half ++ 47 ∷ decimal games))

-- The last line: how many names there are, and how many games.
abbrev pub last_text : ℕ → ℕ → List ℕ
last_text players games = codes "cross " ++ (decimal players ++ (codes " players " ++ (decimal games ++ codes " games\n")))

-- The place of a name among others: the number of them if it is new.
abbrev pub place_of : List (List ℕ) → List ℕ → ℕ
place_of names name = position_or_len (bytes_eq name) names

-- The names that were met so far, and the games between them by their places.
pub record Entered : Type 0 where
  pub names : List (List ℕ)
  pub games : List Played

abbrev pub no_entrants : Entered
no_entrants = record { names = []; games = [] }

-- One game more.
unfoldable pub entered : Pairing → Entered → Entered
entered game e =
    record {
      names = with_name (with_name e.names game.white) game.black;
      games = e.games
          ++ record { white = place_of e.names game.white; black = place_of (with_name e.names game.white) game.black; result = game.result }
          ∷ [];
    }

-- One game more of the base, if it is one of the event's.
unfoldable pub with_head : List ℕ → Entered → Head → Entered
with_head event e head = if is_of event head then entered (pairing_of head) e else e

unfoldable pub entrants : List ℕ → List Head → Entered
entrants event heads = fold (with_head event) no_entrants heads

-- What a game is from the side of the name at a place.
abbrev pub met_in : ℕ → Played → Option Met
met_in id game =
    if id == game.white then Some (record { other = game.black; score = score_by Won Lost game.result })
    else if id == game.black then Some (record { other = game.white; score = score_by Lost Won game.result })
    else None

abbrev pub mets : ℕ → List Played → List Met
mets id games = filter_map (met_in id) games

abbrev pub met_points : List Met → ℕ
met_points met = sum_by (λ (m : Met). half_points_of m.score) met

abbrev pub met_known : List Met → ℕ
met_known met = count_by (λ (m : Met). is_known m.score) met

-- What is kept of a name that plays.
pub record Standing : Type 0 where
  pub id : ℕ
  pub name : List ℕ
  pub half_points : ℕ
  pub games : ℕ
  pub met : List Met

unfoldable pub standing_of : ℕ → List ℕ → List Played → Standing
standing_of id name games =
    record { id = id; name = name; half_points = met_points (mets id games); games = met_known (mets id games); met = mets id games }

-- The order of ranks.
abbrev pub row_before : Standing → Standing → Bool
row_before a b = nat_lt b.half_points a.half_points || ((a.half_points == b.half_points) && is_lt (slice_cmp nat_cmp a.name b.name))

abbrev pub with_row : List Standing → Standing → List Standing
with_row [] row = row ∷ []
with_row (first ∷ rows) row = if row_before first row then first ∷ with_row rows row else row ∷ first ∷ rows

-- How many rows stand before a row.
abbrev pub row_place : List Standing → Standing → ℕ
row_place [] row = 0
row_place (first ∷ rows) row = if row_before first row then row_place rows row + 1 else 0

-- The first n names in the order of ranks.
abbrev pub rows_below : Entered → ℕ → List Standing
rows_below e zero = []
rows_below e (suc n) = with_row (rows_below e n) (standing_of n (slice_index_or e.names n []) e.games)

-- The signs of the games with the name at a place.
abbrev pub signs_with : ℕ → List Met → List ℕ
signs_with id met = map (λ (m : Met). sign m.score) (filter (λ (m : Met). id == m.other) met)

-- Whether there are any.
abbrev pub has_met : ℕ → List Met → Bool
has_met id met = list_any (λ (m : Met). id == m.other) met

abbrev pub row_cell : Standing → Standing → List ℕ
row_cell row column = if row.id == column.id then codes "x" else or_dot (signs_with column.id row.met)

abbrev pub row_cells : Standing → List Standing → List ℕ
row_cells row rows = flat_map (λ (column : Standing). 32 ∷ row_cell row column) rows

-- The line of a row, and the table of rows.
abbrev pub row_line : List Standing → Standing → CrossLine
row_line rows row = record { name = row.name; half_points = row.half_points; games = row.games; cells = row_cells row rows }

unfoldable pub table_in : List Standing → ℕ → Crosstable
table_in rows games = record { lines = map (row_line rows) rows; games = games }
