-- The position that a move needs keeps the rules, and the move is legal there.
use Rattle.std.proofs.Common.{◌≡◌, ℕ, true, IsTrue, Option, None, refl, sym, subst}
use Rattle.cell_core.specs.declared.man.Colour.{Colour}
use Rattle.cell_core.specs.declared.man.Colour.TheVariants.{White, Black}
use Rattle.cell_core.specs.declared.man.Kind.TheVariants.{King}
use Rattle.cell_core.specs.declared.step.Move.{Move}
use Rattle.cell_core.specs.Board.{Men}
use Rattle.chess_laws.specs.declared.effect.Effect.{Effect}
use Rattle.chess_laws.specs.declared.effect.Effect.TheVariants.{Plain, Double, Passing, Castle, Null}
use Rattle.chess_laws.specs.declared.fault.PlaceFault.{PlaceFault}
use Rattle.chess_laws.specs.declared.fault.PlaceFault.TheVariants.{Kings, Pawns, TooMany, InCheck, EnPassant}
use Rattle.chess_laws.specs.declared.setup.Setup.{Setup}
use Rattle.chess_laws.specs.declared.setup.Wing.{Wing}
use Rattle.chess_laws.specs.declared.setup.Wing.TheVariants.{KingSide, QueenSide}
use Rattle.chess_laws.specs.Attacks.{IsInCheck}
use Rattle.chess_laws.specs.Castling.{StandAtHome, has_right}
use Rattle.chess_laws.specs.Moves.{IsFrom}
use Rattle.chess_laws.specs.Position.{Sound, Breaks, HasFitEnPassant, is_at_home, rights_of, setup_of}
use Rattle.chess_laws.specs.Step.{effect_of, Case, board_after, Legal}
use Rattle.chess_laws.proofs.Kings.{is_man-true}
use Rattle.chess_laws.proofs.MovedKings.{legal-allowed, legal-safe}
use Rattle.chess_laws.proofs.Soundness.{sound_of}
use Rattle.tree_rows.proofs.SameBoard.{altered, effect-same, plain-same, double-same, legal-with}
use Rattle.tree_rows.specs.MoveText.{right_needed, square_needed, needed}

-- the board and the side of a position with these rights and this en passant square
abbrev with_only : Setup → ℕ → Option ℕ → Setup
with_only p bits square = altered p (rights_of p.board bits) square

-- ---- the right that castling needs is there

home-true : (men : Men) (c : Colour) (w : Wing) → StandAtHome men c w → is_at_home men c w ≡ true
home-true men c w h = rw (h.king, h.rook, is_man-true c King) refl

right-stands : (men : Men) (c : Colour) (w : Wing) → StandAtHome men c w → IsTrue (has_right (rights_of men (right_needed (Castle w) c)) c w)
right-stands men White KingSide h = home-true men White KingSide h
right-stands men White QueenSide h = home-true men White QueenSide h
right-stands men Black KingSide h = home-true men Black KingSide h
right-stands men Black QueenSide h = home-true men Black QueenSide h

case-needed : (e : Effect) (p : Setup) (m : Move) → Sound p → Case p m e → Case (with_only p (right_needed e p.side) (square_needed e m)) m e
case-needed Plain p m sound h = plain-same p (rights_of p.board 0) None m h
case-needed Double p m sound h = double-same p (rights_of p.board 0) None m h
case-needed Passing p m sound h = record { stands = h.stands; goes = h.goes; target = refl; empty = h.empty; passed = h.passed; promo = h.promo }
case-needed (Castle wing) p m sound h = record {
  stands = h.stands;
  right = right-stands p.board p.side wing (sound.rights p.side wing h.right);
  empty = h.empty;
  safe = h.safe;
  promo = h.promo;
}
case-needed Null p m sound h = record { stands = h.stands; stays = h.stays; promo = h.promo; safe = h.safe }

-- ---- the position of a move that is legal from p

legal-as : (e : Effect) (p : Setup) (m : Move) → effect_of p m ≡ e → Sound p → Case p m e → (IsInCheck (board_after p m e) p.side → ⊥)
    → Legal (with_only p (right_needed e p.side) (square_needed e m)) m
legal-as e p m is sound allowed safe =
    legal-with e p (rights_of p.board (right_needed e p.side)) (square_needed e m) m is (case-needed e p m sound allowed) safe

legal-from : (p : Setup) (m : Move) → Sound p → Legal p m → Legal (needed p.board p.side m) m
unfolding needed
legal-from p m sound legal =
    subst (λ (e : Effect). Legal (with_only p (right_needed e p.side) (square_needed e m)) m) (sym (effect-same p (rights_of p.board 0) None m))
    (legal-as (effect_of p m) p m refl sound (legal-allowed p m legal) (legal-safe p m legal))

pub needed_legal : (men : Men) (side : Colour) (m : Move) (p : Setup) → IsFrom men side m → p ≡ needed men side m → Legal p m
needed_legal men side m p from is =
    rw (is, ← from.board, ← from.to_move) (legal-from from.position m from.sound from.legal)

-- ---- it keeps the rules

square-fits : (e : Effect) (p : Setup) (m : Move) → Sound p → Case p m e → HasFitEnPassant p.side (square_needed e m)
square-fits Plain p m sound h = tt
square-fits Double p m sound h = tt
square-fits Passing p m sound h = subst (HasFitEnPassant p.side) h.target sound.en_passant
square-fits (Castle wing) p m sound h = tt
square-fits Null p m sound h = tt

sound-with : (p : Setup) (bits : ℕ) (square : Option ℕ) → Sound p → HasFitEnPassant p.side square → Sound (with_only p bits square)
sound-with p bits square s fit =
    sound_of p.board p.side bits (rights_of p.board bits) square s.squares s.kings s.pawns s.few s.not_in_check refl fit

pub bare_sound : (men : Men) (side : Colour) (m : Move) → IsFrom men side m → Sound (setup_of men side 0 None)
bare_sound men side m from = rw (← from.board, ← from.to_move) (sound-with from.position 0 None from.sound tt)

pub needed_sound : (men : Men) (side : Colour) (m : Move) (p : Setup) (e : Effect) (bits : ℕ) (square : Option ℕ) → IsFrom men side m
    → p ≡ setup_of men side 0 None → e ≡ effect_of p m → bits ≡ right_needed e side → square ≡ square_needed e m → Sound (setup_of men side bits square)
needed_sound men side m p e bits square from of_bare of_move of_right of_square =
    let q : Setup = from.position in
    rw (of_right, of_square, of_move, of_bare, ← from.board, ← from.to_move)
    (subst (λ (f : Effect). Sound (with_only q (right_needed f q.side) (square_needed f m))) (sym (effect-same q (rights_of q.board 0) None m))
    (sound-with q (right_needed (effect_of q m) q.side) (square_needed (effect_of q m) m) from.sound
    (square-fits (effect_of q m) q m from.sound (legal-allowed q m from.legal))))

pub needed_is : (men : Men) (side : Colour) (m : Move) (p q : Setup) (e : Effect) (bits : ℕ) (square : Option ℕ)
    → p ≡ setup_of men side 0 None → e ≡ effect_of p m → bits ≡ right_needed e side → square ≡ square_needed e m → q ≡ setup_of men side bits square
    → q ≡ needed men side m
unfolding needed
needed_is men side m p q e bits square of_bare of_move of_right of_square is = rw (is, of_right, of_square, of_move, of_bare) refl

-- no rule is broken
pub unbroken : (p : Setup) (fault : PlaceFault) → Sound p → Breaks p fault → ⊥
unbroken p Kings sound h = h sound.kings
unbroken p Pawns sound h = h.1 sound.pawns
unbroken p TooMany sound h = h.2 sound.few
unbroken p InCheck sound h = sound.not_in_check h.3
unbroken p EnPassant sound h = h.4 sound.en_passant
