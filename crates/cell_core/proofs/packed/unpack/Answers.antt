-- One square more, and at the end all.
use Rattle.std.proofs.Common.{◌≡◌, ap, sym, ◌∙◌, arith, length-set}
use Rattle.cell_core.specs.Packed.{Packed, cells_of, man_of, men_of, nibble_at}
use Rattle.cell_core.proofs.Packing.{unpack-next, unpack-end}
use Rattle.cell_core.proofs.packed.unpack.Goals as goal

pub loop-s-preserved : goal.loop-s-preserved
loop-s-preserved c =
    let read : c.man.result ≡ man_of (nibble_at c.args.packed.now.cells c.loop-s.s) =
    c.man.ensures ∙ ap man_of (c.nibble.ensures ∙ ap (λ (p : Packed). nibble_at p.cells c.loop-s.s) c.packed.view_is) in
    record {
      squares = length-set c.loop-s.men c.loop-s.s c.man.result ∙ c.loop-s.invariant.squares;
      unpacked = unpack-next c.loop-s.men c.args.packed.now.cells c.loop-s.s c.man.result c.loop-s.invariant.squares c.loop-s-test.true read c.loop-s.invariant.unpacked;
    }

pub returns : goal.returns
returns c =
    let cells : c.packed.inside.cells ≡ c.args.packed.now.cells = ap (λ (p : Packed). p.cells) c.packed.view_is in
    let side : c.packed.inside.side ≡ c.args.packed.now.side = ap (λ (p : Packed). p.side) c.packed.view_is in
    let board : c.from_cells.result ≡ men_of c.args.packed.now.cells =
    c.from_cells.ensures.men ∙ unpack-end c.loop-s.men c.args.packed.now.cells c.loop-s.s c.loop-s.invariant.squares (omega arith) c.loop-s.invariant.unpacked in
    record {
      board = board;
      side = side;
      given_back = λ i. record { cells = (ap cells_of (board ∙ ap men_of (sym cells)) ∙ c.packed.invariant ∙ cells) i; side = side i };
    }
