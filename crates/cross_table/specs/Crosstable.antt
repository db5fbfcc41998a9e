-- The crosstable of an event (this project's own, after Scid's crosstables).
use Rattle.std.specs.Prelude.{ℕ, ◌+◌, ◌/◌, ◌%◌, ◌==◌, nat_lt, Bool, true, false, not, ◌&&◌, ◌||◌, if◌then◌else◌, List, [], ◌∷◌, ◌++◌, Option, None, Some, length, map, filter, count_by, codes}
use Rattle.std.specs.Fmt.{decimal}
use Rattle.std.specs.List.{filter_map, flat_map, fold, list_any, sum_by}
use Rattle.std.specs.Ordering.{nat_cmp, is_lt}
use Rattle.std.specs.Cmp.Lexicographic.{slice_cmp}
use Rattle.std.specs.Str.{bytes_eq}
use Rattle.game_tree.specs.declared.head.Head.{Head}
use Rattle.game_tree.specs.declared.head.Outcome.{Outcome}
use Rattle.game_tree.specs.declared.head.Outcome.TheVariants.{Unknown, White, Black, Draw}
use Rattle.cross_table.specs.declared.score.Score.{Score}
use Rattle.cross_table.specs.declared.score.Score.TheVariants.{Won, Drawn, Lost, Open}

-- ---- the event's games

-- What a crosstable reads of a game: its two names and its result.
pub record Pairing : Type 0 where
  pub white : List ℕ
  pub black : List ℕ
  pub result : Outcome

-- A game is one of the event's: it is not deleted, its event name is the given text, and its two names differ.
abbrev pub is_of : List ℕ → Head → Bool
is_of event head = not head.deleted && (bytes_eq head.event event && not (bytes_eq head.white head.black))

-- The event's games, in order.
unfoldable pub event_games : List ℕ → List Head → List Pairing
event_games event heads = map (λ (head : Head). record { white = head.white; black = head.black; result = head.result }) (filter (is_of event) heads)

-- Whether a result is known.
abbrev pub has_result : Outcome → Bool
has_result Unknown = false
has_result White = true
has_result Black = true
has_result Draw = true

-- ---- a game from the side of one of its names

-- How a game with this result ended for a name, where it ends with these scores if White won, and if Black did. It is open if the
-- result is unknown.
abbrev pub score_by : Score → Score → Outcome → Score
score_by white black White = white
score_by white black Black = black
score_by white black Draw = Drawn
score_by white black Unknown = Open

-- The other name of a game, and how it ended for this one.
pub record Meeting : Type 0 where
  pub other : List ℕ
  pub score : Score

-- What a game is from the side of a name, if it is one of its two.
abbrev pub meeting : List ℕ → Pairing → Option Meeting
meeting name game =
    if bytes_eq name game.white then Some (record { other = game.black; score = score_by Won Lost game.result })
    else if bytes_eq name game.black then Some (record { other = game.white; score = score_by Lost Won game.result })
    else None

-- The games of a name, from its side and in order.
unfoldable pub meetings : List ℕ → List Pairing → List Meeting
meetings name games = filter_map (meeting name) games

-- ---- points

-- Half points: 2 for a game won, 1 for a draw.
abbrev pub half_points_of : Score → ℕ
half_points_of Won = 2
half_points_of Drawn = 1
half_points_of _ = 0

unfoldable pub half_points : List ℕ → List Pairing → ℕ
half_points name games = sum_by (λ (m : Meeting). half_points_of m.score) (meetings name games)

-- The games of a name that count: those with a known result.
abbrev pub is_known : Score → Bool
is_known Open = false
is_known _ = true

unfoldable pub games_known : List ℕ → List Pairing → ℕ
games_known name games = count_by (λ (m : Meeting). is_known m.score) (meetings name games)

-- ---- names and their ranks

-- Names with one more, which comes last unless it is there.
abbrev pub with_name : List (List ℕ) → List ℕ → List (List ℕ)
with_name names name = if list_any (bytes_eq name) names then names else names ++ name ∷ []

-- The names that play, each once.
unfoldable pub names_of : List Pairing → List (List ℕ)
names_of games = fold (λ (names : List (List ℕ)) (game : Pairing). with_name (with_name names game.white) game.black) [] games

-- A name stands before another if it has more half points, or as many and bytes that come before.
abbrev pub stands_before : List Pairing → List ℕ → List ℕ → Bool
stands_before games a b =
    nat_lt (half_points b games) (half_points a games)
    || ((half_points a games == half_points b games) && is_lt (slice_cmp nat_cmp a b))

-- Ranked names with one more, behind those that stand before it.
abbrev pub with_ranked : List Pairing → List (List ℕ) → List ℕ → List (List ℕ)
with_ranked games [] name = name ∷ []
with_ranked games (first ∷ names) name = if stands_before games first name then first ∷ with_ranked games names name else name ∷ first ∷ names

-- The names in the order of their ranks.
unfoldable pub ranked : List Pairing → List (List ℕ)
ranked games = fold (with_ranked games) [] (names_of games)

-- ---- cells

-- The sign of a game: `1`, `=`, `0`, or `*` for an unknown result.
abbrev pub sign : Score → ℕ
sign Won = 49
sign Drawn = 61
sign Lost = 48
sign Open = 42

-- The signs of the games of a name with another one, in order and from its side.
unfoldable pub signs : List Pairing → List ℕ → List ℕ → List ℕ
signs games row column = map (λ (m : Meeting). sign m.score) (filter (λ (m : Meeting). bytes_eq column m.other) (meetings row games))

-- A dot in the place of no sign.
abbrev pub or_dot : List ℕ → List ℕ
or_dot [] = codes "."
or_dot (first ∷ more) = first ∷ more

-- The cells of a name, each with a space before it: a cross on the diagonal.
abbrev pub cells : List Pairing → List (List ℕ) → List ℕ → List ℕ
cells games columns row = flat_map (λ (column : List ℕ). 32 ∷ (if bytes_eq row column then codes "x" else or_dot (signs games row column))) columns

-- ---- the table

-- A line of a crosstable: a name, its half points, its games with a known result, and its cells.
pub record CrossLine : Type 0 where
  pub name : List ℕ
  pub half_points : ℕ
  pub games : ℕ
  pub cells : List ℕ

abbrev pub line_of : List Pairing → List (List ℕ) → List ℕ → CrossLine
line_of games columns name =
    record { name = name; half_points = half_points name games; games = games_known name games; cells = cells games columns name }

-- A crosstable: a line for each name, in the order of ranks, and the number of all of the event's games.
pub record Crosstable : Type 0 where
  pub lines : List CrossLine
  pub games : ℕ

abbrev pub table_of : List Pairing → Crosstable
table_of games = record { lines = map (line_of games (ranked games)) (ranked games); games = length games }

-- The crosstable of an event.
unfoldable pub crosstable : List ℕ → List Head → Crosstable
crosstable event heads = table_of (event_games event heads)

-- ---- its text

-- Half points as points, with `.0` or `.5`.
abbrev pub points_text : ℕ → List ℕ
points_text half = decimal (half / 2) ++ (if half % 2 == 0 then codes ".0" else codes ".5")

-- The rank, the name, its points and its games, and the cells.
unfoldable pub line_text : ℕ → CrossLine → List ℕ
line_text rank line = (decimal rank ++ (32 ∷ line.name ++ (32 ∷ points_text line.half_points ++ 47 ∷ decimal line.games))) ++ (line.cells ++ 10 ∷ [])

abbrev pub lines_text : ℕ → List CrossLine → List ℕ
lines_text rank [] = []
lines_text rank (line ∷ lines) = line_text rank line ++ lines_text (rank + 1) lines

-- A line for each name, and one that tells how many names there are, and how many games.
unfoldable pub table_text : Crosstable → List ℕ
table_text table =
    lines_text 1 table.lines
    ++ (codes "cross " ++ (decimal (length table.lines) ++ (codes " players " ++ (decimal table.games ++ codes " games\n"))))
