use Rattle.std.proofs.Common.{List, subst, arith}
use Rattle.std.specs.Prelude.{All}
use Rattle.std.proofs.lemmas.List.{take_all}
use Rattle.cell_core.specs.Packed.{Packed}
use Rattle.book_pages.specs.Keeping.{HasHomes}
use Rattle.book_pages.proofs.HomeLemmas.{home_more, homes_next}
use Rattle.book_pages.proofs.least.homes_of.Goals as goal

pub loop-board-preserved : goal.loop-board-preserved
loop-board-preserved c =
    homes_next c.args.boards.now c.loop-board.board-index c.loop-board.homes.items c.add_home.new.homes.items c.board-item.result c.loop-board-test.true
    c.in_ok-add_home.ensures.stay
    (home_more c.add_home.new.homes.items c.homes_on.result c.board-item.result (omega (arith, c.homes_on.type_inv)) c.in_ok-add_home.ensures.has
    c.homes_on.ensures.home) c.board-item.is c.loop-board.invariant

pub returns : goal.returns
returns c = record {
  homes = subst (λ (boards : List Packed). All (HasHomes c.loop-board.homes.items) boards) (take_all c.loop-board.board-index c.args.boards.now c.loop-board-test.false) c.loop-board.invariant;
}
