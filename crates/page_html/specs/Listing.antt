-- The list of the games of a page as it is written (this project's own).
use Rattle.std.specs.Prelude.{ℕ, ◌==◌, nat_lt, if◌then◌else◌, List, [], ◌++◌, codes, length}
use Rattle.std.specs.Fmt.{decimal}
use Rattle.std.specs.List.{flat_map}
use Rattle.game_tree.specs.Outcome.{outcome_text}
use Rattle.game_tree.specs.declared.head.Head.{Head}
use Rattle.sig_index.specs.Games.{head_in}
use Rattle.book_pages.specs.declared.listing.Listed.{Listed}
use Rattle.page_html.specs.Text.{written}

-- The name of the file of a game.
unfoldable pub game_file : ℕ → List ℕ
game_file number = codes "g" ++ (decimal number ++ codes ".html")

-- A number; a dash for 0, which stands for one that is not known.
unfoldable pub known : ℕ → List ℕ
known number = if number == 0 then codes "-" else decimal number

-- The place of a page at which a game is played so far.
unfoldable pub place_text : ℕ → List ℕ
place_text ply = if ply == 0 then [] else codes "#m" ++ decimal ply

-- A link to the page of a game, at the position at which it is listed.
unfoldable pub game_link : Listed → List ℕ
game_link game = codes "<a href=\"" ++ (game_file game.number ++ (place_text game.ply ++ codes "\">"))

unfoldable pub rating_cell : ℕ → List ℕ
rating_cell rating = codes "<td class=\"rating\">" ++ (known rating ++ codes "</td>")

-- The cells of a game: its number, White with a link to its page, Black, each with the rating, the result, the event and the year.
unfoldable pub number_cell : ℕ → List ℕ
number_cell number = codes "<tr><td class=\"number\">" ++ (decimal number ++ codes "</td><th scope=\"row\">")

unfoldable pub white_cells : Listed → Head → List ℕ
white_cells game head =
    number_cell game.number ++ (game_link game ++ (written head.white ++ (codes "</a></th>" ++ rating_cell head.white_rating.value)))

unfoldable pub black_cells : Head → List ℕ
black_cells head = codes "<td>" ++ (written head.black ++ (codes "</td>" ++ rating_cell head.black_rating.value))

unfoldable pub result_cell : List ℕ → List ℕ
result_cell text = codes "<td class=\"result\">" ++ (text ++ codes "</td><td class=\"event\">")

unfoldable pub year_cell : ℕ → List ℕ
year_cell year = codes "</td><td class=\"year\">" ++ (known year ++ codes "</td></tr>\n")

unfoldable pub event_cells : Head → List ℕ
event_cells head = result_cell (outcome_text head.result) ++ (written head.event ++ year_cell head.date.year)

unfoldable pub game_row : Listed → Head → List ℕ
game_row game head = white_cells game head ++ (black_cells head ++ event_cells head)

-- The row of a game that the base has.
abbrev pub row_if_there : List Head → Listed → List ℕ
row_if_there heads game = if nat_lt game.number (length heads) then game_row game (head_in heads game.number) else []

-- What stands before the rows.
unfoldable pub games_head : List ℕ
games_head =
    codes "<div class=\"scroll\" role=\"region\" aria-labelledby=\"games\" tabindex=\"0\"><table class=\"games\">\n<caption id=\"games\">Best rated games</caption>\n<thead><tr><th scope=\"col\" class=\"number\">Game</th><th scope=\"col\">White</th><th scope=\"col\" class=\"rating\">Rating</th><th scope=\"col\">Black</th><th scope=\"col\" class=\"rating\">Rating</th><th scope=\"col\">Result</th><th scope=\"col\" class=\"event\">Event</th><th scope=\"col\" class=\"year\">Year</th></tr></thead>\n<tbody>\n"

-- The list of games, if there are any.
unfoldable pub games_table : List Head → List Listed → List ℕ
games_table heads games =
    if length games == 0 then [] else games_head ++ (flat_map (row_if_there heads) games ++ codes "</tbody>\n</table></div>\n")
