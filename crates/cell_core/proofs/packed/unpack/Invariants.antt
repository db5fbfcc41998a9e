-- The squares so far are those of the packed board.
use Rattle.std.proofs.Common.{◌≡◌, length, take}
use Rattle.cell_core.proofs.Packing.{first_men}
use Rattle.cell_core.proofs.packed.unpack.Given as goal

abbrev pub invariant-loop-s : goal.invariant-loop-s
invariant-loop-s l = record {
  squares : length l.men ≡ 64;
  unpacked : take l.s l.men ≡ first_men l.packed.cells l.s;
}
