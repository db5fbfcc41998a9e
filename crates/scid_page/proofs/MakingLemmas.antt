-- The book that is asked for.
use Rattle.std.proofs.Common.{◌≡◌, ◌<◌, ℕ, List, [], Option, None, Some, length, get_or, refl, sym, subst, inl, inr}
use Rattle.std.specs.Prelude.{Contains, IfSome, slice_get}
use Rattle.std.proofs.lemmas.Bool.{cases_eq}
use Rattle.std.proofs.lemmas.Option.{slice_get-get_or, slice_get_read, slice_get_within}
use Rattle.cell_core.specs.Packed.{Packed, men_of}
use Rattle.game_tree.specs.Game.{GameTree}
use Rattle.game_tree.specs.declared.head.Head.{Head}
use Rattle.tree_rows.specs.Rows.{rows_of}
use Rattle.tree_rows.specs.declared.row.Row.{Row}
use Rattle.book_pages.specs.Book.{Pages, ShowTrees}
use Rattle.book_pages.specs.Hits.{exactly, tree_hits}
use Rattle.book_pages.specs.Reached.{IsLeast, book_boards}
use Rattle.book_pages.specs.declared.reach.Reach.{Reach}
use Rattle.scid_page.proofs.PuttingLemmas.{all_stay, stay_on}
use Rattle.scid_page.specs.Putting.{HasPageAt, HaveFirst, Stay}
use Rattle.scid_page.specs.Shelf.{File, HasPage, HasPages, IsBook}

-- Each page is there, if all but that of the start were put down in an order that has all, and that of the start last.
pub all_pages : (pages : Pages) (heads : List Head) (found order : List ℕ) (first second third fourth : Option (List File)) → order ≡ found
    → ((page : ℕ) → page < length pages.boards → Contains found page) → IfSome first (HaveFirst pages heads order (length order)) → Stay first second
    → Stay second third → Stay third fourth → IfSome fourth (HasPageAt pages heads 0) → IfSome fourth (HasPages pages heads)
all_pages pages heads found order first second third fourth same all have stay stay' stay'' start =
    by fourth (all_stay pages heads order (length order) first fourth (stay_on first second fourth stay (stay_on second third fourth stay' stay'')) have) start
  where
    by : (files : Option (List File)) → IfSome files (HaveFirst pages heads order (length order)) → IfSome files (HasPageAt pages heads 0)
        → IfSome files (HasPages pages heads)
    by None have start = tt
    by (Some files) have start = λ number board rows is_board is_rows. elim (cases_eq number 0) [
      | inl none ↦ subst (λ (n : ℕ). HasPageAt pages heads n files) (sym none) start board rows is_board is_rows
      | inr apart ↦
          let at : Contains order number = subst (λ (l : List ℕ). Contains l number) (sym same) (all number (slice_get_within pages.boards number board is_board)) in
          have at.0 number at.1 (slice_get_read order (length order) at.0 number refl at.1 (sym at.2)) apart board rows is_board is_rows
    ]

-- A book with a page for each of its boards is the one that is asked for, if its boards are and its rows are those of their trees.
pub is_book : (reach : Reach) (plies : List (Option ℕ)) (heads : List Head) (games : List GameTree) (least : ℕ) (pages : Pages) (files : Option (List File))
    → pages.boards ≡ book_boards reach plies games least → IsLeast reach plies games least → ShowTrees plies heads games pages
    → length pages.rows ≡ length pages.boards → IfSome files (HasPages pages heads) → IfSome files (IsBook reach plies heads games least)
is_book reach plies heads games least pages None boards_are fewest trees as_many has = tt
is_book reach plies heads games least pages (Some files) boards_are fewest trees as_many has = record {
  fewest = fewest;
  pages = λ board there.
      let at : Contains pages.boards board = subst (λ (l : List Packed). Contains l board) (sym boards_are) there in
      let is_board : slice_get pages.boards at.0 ≡ Some board = slice_get_read pages.boards (length pages.boards) at.0 board refl at.1 (sym at.2) in
      let within : at.0 < length pages.rows = subst (λ (n : ℕ). at.0 < n) (sym as_many) at.1 in
      let is_rows : slice_get pages.rows at.0 ≡ Some (get_or pages.rows at.0 []) = slice_get-get_or pages.rows at.0 [] within in
      let shown = trees at.0 board (get_or pages.rows at.0 []) is_board is_rows in
      let page : HasPage pages.boards heads board (get_or pages.rows at.0 []) files = has at.0 board (get_or pages.rows at.0 []) is_board is_rows in
      subst (λ (l : List Packed). HasPage l heads board (rows_of (tree_hits (exactly (men_of board.cells) board.side) plies heads games)) files) boards_are
      (subst (λ (rows : List Row). HasPage pages.boards heads board rows files) shown page);
}
