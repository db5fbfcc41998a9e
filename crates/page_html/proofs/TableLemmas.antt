-- The table of a page.
use Rattle.std.proofs.Common.{◌≡◌, ℕ, List, Option, Some, refl, sym, ◌∙◌}
use Rattle.std.specs.Prelude.{slice_get}
use Rattle.std.proofs.lemmas.Option.{same_Some}
use Rattle.cell_core.specs.declared.man.Colour.{Colour}
use Rattle.cell_core.specs.declared.step.Move.{Move}
use Rattle.cell_core.specs.Board.{Men}
use Rattle.cell_core.specs.Packed.{Packed, men_of, packed_of}
use Rattle.chess_laws.specs.declared.setup.Setup.{Setup}
use Rattle.chess_laws.specs.Step.{stepped}
use Rattle.chess_text.specs.SanText.{san_text}
use Rattle.tree_rows.specs.declared.numbers.Numbers.{Numbers}
use Rattle.tree_rows.specs.declared.row.Row.{Row}
use Rattle.tree_rows.specs.MoveText.{needed}
use Rattle.tree_rows.specs.Numbers.{total_of}
use Rattle.page_html.specs.Table.{behind, key_cell, linked, table, table_with}

-- The head of a row of a move, by the position that the move leads to.
pub head_is : (boards : List Packed) (men : Men) (side : Colour) (m : Move) (p q : Setup) (packed : Packed) (text : List ℕ)
    → p ≡ needed men side m → q ≡ stepped p m → packed ≡ packed_of q.board q.side → text ≡ san_text p m
    → linked boards packed text ≡ key_cell boards men side (Some m)
unfolding behind
head_is boards men side m p q packed text before after board is = rw (is, board, after, before) refl

-- A page has one board and one list of rows.
pub table_is : (boards : List Packed) (pages : List (List Row)) (i : ℕ) (here board : Packed) (shown rows : List Row) (men : Men) (side : Colour) (total : Numbers)
    → slice_get boards i ≡ Some here → slice_get pages i ≡ Some shown → men ≡ men_of here.cells → side ≡ here.side → total ≡ total_of shown
    → slice_get boards i ≡ Some board → slice_get pages i ≡ Some rows → table_with boards men side total shown ≡ table boards board rows
unfolding table
table_is boards pages i here board shown rows men side total at_board at_rows of_men of_side of_total is_board is_rows =
    let board_same : here ≡ board = same_Some here board (sym at_board ∙ is_board) in
    let rows_same : shown ≡ rows = same_Some shown rows (sym at_rows ∙ is_rows) in
    rw (of_men, of_side, of_total, board_same, rows_same) refl
