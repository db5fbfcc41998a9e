-- What a half-move does is said by the board and the side to move; rights and the en passant square only say whether it is allowed.
use Rattle.std.proofs.Common.{◌≡◌, ℕ, Option, Some, None, refl, sym, subst, ◌∙◌}
use Rattle.std.specs.Option.{option_map_or}
use Rattle.cell_core.specs.declared.man.Kind.{Kind}
use Rattle.cell_core.specs.declared.man.Kind.TheVariants.{King, Queen, Rook, Bishop, Knight, Pawn}
use Rattle.cell_core.specs.declared.man.Man.{Man}
use Rattle.cell_core.specs.declared.step.Move.{Move}
use Rattle.cell_core.specs.Board.{Men, man_at}
use Rattle.chess_laws.specs.declared.effect.Effect.{Effect}
use Rattle.chess_laws.specs.declared.effect.Effect.TheVariants.{Plain, Double, Passing, Castle, Null}
use Rattle.chess_laws.specs.declared.setup.Rights.{Rights}
use Rattle.chess_laws.specs.declared.setup.Setup.{Setup}
use Rattle.chess_laws.specs.Attacks.{IsInCheck}
use Rattle.chess_laws.specs.Step.{effect_as, effect_of, GoesPlainly, PlainCase, DoubleCase, Case, board_after, rights_left, en_passant_after, after, Legal}

-- the board and the side of a position with these rights and this en passant square
abbrev pub altered : Setup → Rights → Option ℕ → Setup
altered p rights square = record { board = p.board; side = p.side; rights = rights; en_passant = square }

effect-as_same : (k : Kind) (p : Setup) (rights : Rights) (square : Option ℕ) (m : Move) → effect_as k (altered p rights square) m ≡ effect_as k p m
effect-as_same King p rights square m = refl
effect-as_same Queen p rights square m = refl
effect-as_same Rook p rights square m = refl
effect-as_same Bishop p rights square m = refl
effect-as_same Knight p rights square m = refl
effect-as_same Pawn p rights square m = refl

effect-on_same : (standing : Option Man) (p : Setup) (rights : Rights) (square : Option ℕ) (m : Move)
    → option_map_or (λ man. effect_as man.kind (altered p rights square) m) standing Plain ≡ option_map_or (λ man. effect_as man.kind p m) standing Plain
effect-on_same None p rights square m = refl
effect-on_same (Some standing) p rights square m = effect-as_same standing.kind p rights square m

pub effect-same : (p : Setup) (rights : Rights) (square : Option ℕ) (m : Move) → effect_of (altered p rights square) m ≡ effect_of p m
effect-same p rights square m = effect-on_same (man_at p.board m.from) p rights square m

goes-same : (k : Kind) (p : Setup) (rights : Rights) (square : Option ℕ) (m : Move) → GoesPlainly p k m → GoesPlainly (altered p rights square) k m
goes-same King p rights square m h = h
goes-same Queen p rights square m h = h
goes-same Rook p rights square m h = h
goes-same Bishop p rights square m h = h
goes-same Knight p rights square m h = h
goes-same Pawn p rights square m h = h

pub plain-same : (p : Setup) (rights : Rights) (square : Option ℕ) (m : Move) → PlainCase p m → PlainCase (altered p rights square) m
plain-same p rights square m h = record {
  kind = h.kind;
  stands = h.stands;
  goes = goes-same h.kind p rights square m h.goes;
  promotes = h.promotes;
}

pub double-same : (p : Setup) (rights : Rights) (square : Option ℕ) (m : Move) → DoubleCase p m → DoubleCase (altered p rights square) m
double-same p rights square m h =
    record { stands = h.stands; own_rank = h.own_rank; walks = h.walks; target = h.target; promo = h.promo }

board-same : (e : Effect) (p : Setup) (rights : Rights) (square : Option ℕ) (m : Move) → board_after (altered p rights square) m e ≡ board_after p m e
board-same Plain p rights square m = refl
board-same Double p rights square m = refl
board-same Passing p rights square m = refl
board-same (Castle wing) p rights square m = refl
board-same Null p rights square m = refl

-- the positions behind the move differ in their rights alone
pub after-same : (e : Effect) (p : Setup) (rights : Rights) (square : Option ℕ) (m : Move)
    → altered (after p m e) (rights_left (altered p rights square) m e) (en_passant_after p m e) ≡ after (altered p rights square) m e
after-same Plain p rights square m = refl
after-same Double p rights square m = refl
after-same Passing p rights square m = refl
after-same (Castle wing) p rights square m = refl
after-same Null p rights square m = refl

-- a move that is allowed in both is legal in the one if it is in the other
pub legal-with : (e : Effect) (p : Setup) (rights : Rights) (square : Option ℕ) (m : Move) → effect_of p m ≡ e → Case (altered p rights square) m e
    → (IsInCheck (board_after p m e) p.side → ⊥) → Legal (altered p rights square) m
legal-with e p rights square m is allowed safe =
    let q : Setup = altered p rights square in
    let same : effect_of q m ≡ e = effect-same p rights square m ∙ is in (
      after q m (effect_of q m),
      record {
        allowed = subst (λ (f : Effect). Case q m f) (sym same) allowed;
        becomes = refl;
        safe = subst (λ (f : Effect). IsInCheck (board_after q m f) q.side → ⊥) (sym same)
            (λ check. safe (subst (λ (men : Men). IsInCheck men p.side) (board-same e p rights square m) check));
      },
    )
