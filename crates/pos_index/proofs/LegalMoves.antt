-- A legal move of a position, by its packed board.
use Rattle.std.proofs.Common.{◌≡◌, sym, ap, ◌∙◌}
use Rattle.cell_core.specs.declared.step.Move.{Move}
use Rattle.cell_core.specs.Packed.{Packed, men_of, packed_of}
use Rattle.cell_core.proofs.Packing.{given_back}
use Rattle.chess_laws.specs.declared.setup.Setup.{Setup}
use Rattle.chess_laws.specs.Position.{Sound}
use Rattle.chess_laws.specs.Step.{Legal}
use Rattle.pos_index.specs.Hits.{IsLegalOn}

pub legal_on : (p : Setup) (board : Packed) (m : Move) → Sound p → board ≡ packed_of p.board p.side → Legal p m → IsLegalOn board m
legal_on p board m sound is legal = record {
  position = p;
  sound = sound;
  board = sym (ap (λ (k : Packed). men_of k.cells) is ∙ given_back p.board sound.squares);
  to_move = sym (ap (λ (k : Packed). k.side) is);
  legal = legal;
}
