use Rattle.std.proofs.Common.{ℕ, List, IfOk, ◌≡◌, Option, Some, None, Ok, ok_or, refl, sym, ◌∙◌}
use Rattle.cell_core.specs.Board.{Men}
use Rattle.chess_text.specs.Placement.{PlacementText}
use Rattle.chess_text.specs.Filling.{board_named}
use Rattle.chess_text.proofs.PlacementLaws.{placement_fills, placement_filled}
use Rattle.chess_text.proofs.placement.read_board.Goals as goal

found : {E : Type 0} (text : List ℕ) (o : Option Men) (e : E)
    → o ≡ board_named text
    → IfOk (ok_or o e) (λ board. PlacementText text board)
found text None e h = tt
found text (Some board) e h = placement_filled text board (sym h)

pub returns-clause-found : goal.returns-clause-found
returns-clause-found c = rw c.ok_or.ensures.value (found c.args.text.now c.board_of.result _ c.board_of.ensures.exact)

only : {E : Type 0} (text : List ℕ) (o : Option Men) (e : E) (board : Men)
    → o ≡ board_named text → PlacementText text board
    → ok_or o e ≡ Ok board
only text o e board h placement = rw (h, placement_fills text board placement) refl

pub returns-clause-only : goal.returns-clause-only
returns-clause-only c = λ board placement.
    c.ok_or.ensures.value ∙ only c.args.text.now c.board_of.result _ board c.board_of.ensures.exact placement
