-- The table of the moves of a page as it is written (this project's own, after Scid's tree window).
use Rattle.std.specs.Prelude.{ℕ, ◌+◌, ◌*◌, ◌/◌, ◌%◌, ◌==◌, if◌then◌else◌, List, [], ◌∷◌, ◌++◌, Option, Some, None, codes, length}
use Rattle.std.specs.Fmt.{decimal}
use Rattle.std.specs.List.{flat_map}
use Rattle.cell_core.specs.declared.man.Colour.{Colour}
use Rattle.cell_core.specs.declared.step.Move.{Move}
use Rattle.cell_core.specs.Board.{Men}
use Rattle.cell_core.specs.Packed.{Packed, men_of, packed_of}
use Rattle.chess_laws.specs.declared.setup.Setup.{Setup}
use Rattle.chess_laws.specs.Step.{stepped}
use Rattle.tree_rows.specs.declared.numbers.Numbers.{Numbers}
use Rattle.tree_rows.specs.declared.row.Row.{Row}
use Rattle.tree_rows.specs.MoveText.{key_text, needed}
use Rattle.tree_rows.specs.Numbers.{numbers_of, total_of}
use Rattle.tree_rows.specs.TreeText.{in_order, quotient}
use Rattle.book_pages.specs.Book.{has_page}
use Rattle.page_html.specs.Names.{file_of}

-- ---- numbers

-- Tenths of a hundredth, as hundredths with one digit behind the point.
unfoldable pub hundredths : ℕ → List ℕ
hundredths tenths = decimal (tenths / 10) ++ (codes "." ++ (decimal (tenths % 10) ++ codes "%"))

-- How much of a whole a part is, rounded down; a dash if the whole is nothing.
unfoldable pub share : ℕ → ℕ → List ℕ
share part whole = if whole == 0 then codes "-" else hundredths (part * 1000 / whole)

-- How many games ended, and what White scored in them in halves of a point.
abbrev pub ended : Numbers → ℕ
ended n = n.white + n.draws + n.black

abbrev pub halves : Numbers → ℕ
halves n = 2 * n.white + n.draws

-- ---- cells

-- A cell of a column of this class.
unfoldable pub cell_start : List ℕ → List ℕ
cell_start class = codes "<td class=\"" ++ (class ++ codes "\">")

unfoldable pub cell : List ℕ → List ℕ → List ℕ
cell class content = cell_start class ++ (content ++ codes "</td>")

-- An attribute whose value is a number.
unfoldable pub attribute : List ℕ → ℕ → List ℕ
attribute name number = codes " " ++ (name ++ (codes "=\"" ++ (decimal number ++ codes "\"")))

-- A part of a bar, from one place on and so wide; none is no part.
unfoldable pub part_start : List ℕ → List ℕ
part_start class = codes "<rect class=\"" ++ (class ++ codes "\" height=\"1\"")

unfoldable pub part_of_bar : List ℕ → ℕ → ℕ → List ℕ
part_of_bar class from width =
    if width == 0 then [] else part_start class ++ (attribute (codes "x") from ++ (attribute (codes "width") width ++ codes "/>"))

-- The bar of the games that White won, that were drawn and that Black won, side by side and each as wide as one.
unfoldable pub parts_of_bar : Numbers → List ℕ
parts_of_bar n =
    part_of_bar (codes "won") 0 n.white
    ++ (part_of_bar (codes "drawn") n.white n.draws ++ part_of_bar (codes "lost") (n.white + n.draws) n.black)

unfoldable pub bar_start : ℕ → List ℕ
bar_start width = codes "<svg aria-hidden=\"true\" preserveAspectRatio=\"none\" viewBox=\"0 0 " ++ (decimal width ++ codes " 1\">")

unfoldable pub bar : Numbers → List ℕ
bar n = if ended n == 0 then [] else bar_start (ended n) ++ (parts_of_bar n ++ codes "</svg>")

-- The same in numbers, and how many games have no result, if there are any.
unfoldable pub unfinished : ℕ → List ℕ
unfinished number = if number == 0 then [] else codes " *" ++ decimal number

unfoldable pub wins_and_draws : Numbers → List ℕ
wins_and_draws n = decimal n.white ++ (codes " =" ++ (decimal n.draws ++ (codes " -" ++ decimal n.black)))

unfoldable pub results : Numbers → List ℕ
results n = codes "<small>+" ++ (wins_and_draws n ++ (unfinished n.unfinished ++ codes "</small>"))

-- ---- rows

-- White's score, the average ratings of the side to move and of the other side, and the average year.
unfoldable pub averages : Numbers → List ℕ
averages n =
    cell (codes "score") (share (halves n) (2 * ended n))
    ++ (cell (codes "rating") (quotient n.mover_sum n.mover_rated)
    ++ (cell (codes "other") (quotient n.other_sum n.other_rated) ++ cell (codes "year") (quotient n.year_sum n.dated)))

-- How many games there are, their share of so many, and their results, before these.
unfoldable pub columns : ℕ → Numbers → List ℕ
columns whole n =
    cell (codes "count") (decimal n.games)
    ++ (cell (codes "share") (share n.games whole) ++ (cell (codes "results") (bar n ++ results n) ++ averages n))

-- A row of this head.
unfoldable pub row_with : List ℕ → ℕ → Numbers → List ℕ
row_with head whole n = codes "<tr><th scope=\"row\">" ++ (head ++ (codes "</th>" ++ (columns whole n ++ codes "</tr>\n")))

-- The board behind a move, with the side that is to move then.
abbrev pub packed_at : Setup → Packed
packed_at p = packed_of p.board p.side

unfoldable pub behind : Men → Colour → Move → Packed
behind men side m = packed_at (stepped (needed men side m) m)

-- A text as a link to the page of a board, if that has one.
unfoldable pub linked : List Packed → Packed → List ℕ → List ℕ
linked boards board text =
    if has_page board boards then codes "<a href=\"" ++ (file_of board ++ (codes "\">" ++ (text ++ codes "</a>"))) else text

-- The head of a row: its move, as a link to the page of the position that it leads to if that has one, or `end`.
abbrev pub key_cell : List Packed → Men → Colour → Option Move → List ℕ
key_cell boards men side (Some m) = linked boards (behind men side m) (key_text men side (Some m))
key_cell boards men side None = key_text men side None

unfoldable pub move_row : List Packed → Men → Colour → ℕ → Row → List ℕ
move_row boards men side whole row = row_with (key_cell boards men side row.key) whole (numbers_of row)

-- ---- the table

-- What stands before the rows.
unfoldable pub table_head : List ℕ
table_head =
    codes "<div class=\"scroll\" role=\"region\" aria-labelledby=\"moves\" tabindex=\"0\"><table class=\"moves\">\n<caption id=\"moves\">Moves</caption>\n<thead><tr><th scope=\"col\">Move</th><th scope=\"col\">Games</th><th scope=\"col\" class=\"share\">Share</th><th scope=\"col\" class=\"results\">White won, drawn, Black won</th><th scope=\"col\">Score</th><th scope=\"col\" class=\"rating\">Rating</th><th scope=\"col\" class=\"other\">Other</th><th scope=\"col\" class=\"year\">Year</th></tr></thead>\n"

-- The rows of moves, if there are any.
unfoldable pub body : ℕ → List ℕ → List ℕ
body number rows = if number == 0 then [] else codes "<tbody>\n" ++ (rows ++ codes "</tbody>\n")

-- The row of the sums of all rows, and what stands behind it.
unfoldable pub total_row : Numbers → List ℕ
total_row total = codes "<tfoot>\n" ++ (row_with (codes "Total") total.games total ++ codes "</tfoot>\n</table></div>\n")

-- The table of a page by the boards that have one: a row for each move, by games falling, and one for their sums.
unfoldable pub table_with : List Packed → Men → Colour → Numbers → List Row → List ℕ
table_with boards men side total rows =
    table_head ++ (body (length rows) (flat_map (move_row boards men side total.games) (in_order rows)) ++ total_row total)

unfoldable pub table : List Packed → Packed → List Row → List ℕ
table boards board rows = table_with boards (men_of board.cells) board.side (total_of rows) rows
