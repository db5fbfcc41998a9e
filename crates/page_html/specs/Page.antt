-- What is proved of the page of a position (this project's own).
use Rattle.std.specs.Prelude.{◌≡◌, ℕ, true, false, Bool, List, ◌++◌, codes}
use Rattle.cell_core.specs.Packed.{Packed}
use Rattle.game_tree.specs.declared.head.Head.{Head}
use Rattle.tree_rows.specs.declared.row.Row.{Row}
use Rattle.book_pages.specs.declared.listing.Listed.{Listed}
use Rattle.page_html.specs.Listing.{games_table}
use Rattle.page_html.specs.Table.{table}

-- A text that ends with another.
pub record EndsWith (part text : List ℕ) : Type 0 where
  pub front : List ℕ
  pub whole : text ≡ front ++ part

-- How a page ends: with a link to the page of the positions that no page leads to, where it has one.
unfoldable pub others_link : Bool → List ℕ
others_link true = codes "<p><a href=\"others.html\">Positions that no other page leads to</a></p>\n"
others_link false = codes ""

unfoldable pub last_tags : List ℕ
last_tags = codes "</div>\n</main>\n</body>\n</html>\n"

unfoldable pub page_end : Bool → List ℕ
page_end others = others_link others ++ last_tags

-- The page of a board, in a book with these boards: behind the board and the moves that lead there stand the table of the rows, a list of
-- games with these heads, and the end of the page.
pub record IsPage (boards : List Packed) (heads : List Head) (board : Packed) (rows : List Row) (text : List ℕ) : Type 0 where
  pub front : List ℕ
  pub listed : List Listed
  pub others : Bool
  pub whole : text ≡ front ++ (table boards board rows ++ (games_table heads listed ++ page_end others))
