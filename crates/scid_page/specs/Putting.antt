-- What is kept while the files of a book are put down one after the other (this project's own).
use Rattle.std.specs.Prelude.{◌≡◌, ◌<◌, ℕ, List, Option, Some, None, Contains, slice_get, ⊤}
use Rattle.cell_core.specs.Packed.{Packed}
use Rattle.game_tree.specs.declared.head.Head.{Head}
use Rattle.tree_rows.specs.declared.row.Row.{Row}
use Rattle.book_pages.specs.Book.{Pages}
use Rattle.page_html.specs.Page.{IsPage}
use Rattle.scid_page.specs.Shelf.{File, HasPage}

-- No file is lost, where they are told.
abbrev pub Stay : Option (List File) → Option (List File) → Type 0
Stay old None = ⊤
Stay None (Some files) = ⊥
Stay (Some before) (Some files) = (file : File) → Contains before file → Contains files file

-- A text is the page with a number, and such a page stands among files.
abbrev pub IsPageAt : Pages → List Head → ℕ → List ℕ → Type 0
IsPageAt pages heads number text =
    (board : Packed) (rows : List Row) → slice_get pages.boards number ≡ Some board → slice_get pages.rows number ≡ Some rows
    → IsPage pages.boards heads board rows text

abbrev pub HasPageAt : Pages → List Head → ℕ → List File → Type 0
HasPageAt pages heads number files =
    (board : Packed) (rows : List Row) → slice_get pages.boards number ≡ Some board → slice_get pages.rows number ≡ Some rows
    → HasPage pages.boards heads board rows files

-- And those with the first n of these numbers, but for that of the start.
abbrev pub HaveFirst : Pages → List Head → List ℕ → ℕ → List File → Type 0
HaveFirst pages heads numbers n files =
    (i number : ℕ) → i < n → slice_get numbers i ≡ Some number → (number ≡ 0 → ⊥) → HasPageAt pages heads number files
