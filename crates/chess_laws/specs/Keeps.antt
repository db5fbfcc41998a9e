-- What is kept beside a position. No public contract cites these words.
use Rattle.std.specs.Prelude.{◌≡◌, ℕ, List, Bool}
use Rattle.std.proofs.Common.{sym}
use Rattle.cell_core.specs.declared.man.Colour.TheVariants.{White, Black}
use Rattle.chess_laws.specs.declared.setup.Setup.{Setup}
use Rattle.chess_laws.specs.Counts.{counts_of}
use Rattle.chess_laws.specs.LegalNow.{in_check_now}
use Rattle.chess_laws.specs.Position.{Sound, king_square}

-- Whether the side to move is in check.
abbrev pub in_check : Setup → Bool
in_check p = in_check_now p.board p.side

-- The position keeps the rules, these are the kings' squares and the ten counts, and the side to move is in check or not.
pub record Keeps (p : Setup) (white black : ℕ) (checked : Bool) (counts : List ℕ) : Type 0 where
  pub sound : Sound p
  pub white_king : white ≡ king_square p.board White
  pub black_king : black ≡ king_square p.board Black
  pub check : checked ≡ in_check p
  pub census : counts ≡ counts_of p.board

-- All of it follows from the setup, so a position is its setup.
pub inverse_Keeps : (p : Setup) (white black : ℕ) (checked : Bool) (counts : List ℕ) → Keeps p white black checked counts →
    (king_square p.board White ≡ white) × ((king_square p.board Black ≡ black) × ((in_check p ≡ checked) × (counts_of p.board ≡ counts)))
inverse_Keeps p white black checked counts h = (sym h.white_king, (sym h.black_king, (sym h.check, sym h.census)))
