-- The sign behind a move is the same whatever rights are left: who is in check can't castle.
use Rattle.std.proofs.Common.{◌≡◌, ℕ, inl, inr, List, [], ◌∷◌, Option, refl, sym, subst, ◌∙◌}
use Rattle.std.proofs.lemmas.List.Elements.{All-head}
use Rattle.cell_core.specs.declared.step.Move.{Move}
use Rattle.cell_core.specs.Man.{other}
use Rattle.chess_laws.specs.declared.effect.Effect.{Effect}
use Rattle.chess_laws.specs.declared.effect.Effect.TheVariants.{Plain, Double, Passing, Castle, Null}
use Rattle.chess_laws.specs.declared.setup.Rights.{Rights}
use Rattle.chess_laws.specs.declared.setup.Setup.{Setup}
use Rattle.chess_laws.specs.declared.setup.Wing.{Wing}
use Rattle.chess_laws.specs.Attacks.{Attacks, IsInCheck}
use Rattle.chess_laws.specs.Castling.{king_home, king_target, rook_target}
use Rattle.chess_laws.specs.Moves.{IsMove}
use Rattle.chess_laws.specs.Position.{HasKings}
use Rattle.chess_laws.specs.Step.{effect_of, CastleCase, Case, board_after, rights_left, after}
use Rattle.chess_laws.proofs.Keeping.{castle-squares}
use Rattle.chess_laws.proofs.Kings.{king-only}
use Rattle.chess_laws.proofs.MovedKings.{legal-allowed, legal-safe}
use Rattle.chess_text.specs.San.{SignText}
use Rattle.tree_rows.proofs.SameBoard.{altered, plain-same, double-same, after-same, legal-with}

-- nobody castles out of check
no-castling : (p : Setup) (m : Move) (wing : Wing) → HasKings p.board → IsInCheck p.board p.side → effect_of p m ≡ Castle wing → CastleCase p m wing → ⊥
no-castling p m wing kings (s, stands, attacked) is h =
    let from : m.from ≡ king_home p.side = (castle-squares p m wing h.stands is).from in
    let here : s ≡ king_home p.side =
    king-only p.board p.side s (kings p.side) stands ∙ sym (king-only p.board p.side m.from (kings p.side) h.stands) ∙ from in
    All-head (λ (t : ℕ). Attacks p.board (other p.side) t → ⊥) (king_home p.side) (rook_target p.side wing ∷ king_target p.side wing ∷ []) h.safe
    (subst (λ (t : ℕ). Attacks p.board (other p.side) t) here attacked)

case-in_check : (e : Effect) (p : Setup) (rights : Rights) (m : Move) → HasKings p.board → IsInCheck p.board p.side → (m.to ≡ m.from → ⊥)
    → effect_of p m ≡ e → Case p m e → Case (altered p rights p.en_passant) m e
case-in_check Plain p rights m kings check leaves is h = plain-same p rights p.en_passant m h
case-in_check Double p rights m kings check leaves is h = double-same p rights p.en_passant m h
case-in_check Passing p rights m kings check leaves is h =
    record { stands = h.stands; goes = h.goes; target = h.target; empty = h.empty; passed = h.passed; promo = h.promo }
case-in_check (Castle wing) p rights m kings check leaves is h = absurd (no-castling p m wing kings check is h)
case-in_check Null p rights m kings check leaves is h = absurd (leaves h.stays)

move-in_check : (p : Setup) (rights : Rights) (m : Move) → HasKings p.board → IsInCheck p.board p.side → IsMove p m
    → IsMove (altered p rights p.en_passant) m
move-in_check p rights m kings check h = record {
  legal = legal-with (effect_of p m) p rights p.en_passant m refl
      (case-in_check (effect_of p m) p rights m kings check h.leaves refl (legal-allowed p m h.legal)) (legal-safe p m h.legal);
  leaves = h.leaves;
}

sign-same : (p : Setup) (rights : Rights) (text : List ℕ) → HasKings p.board → SignText p text → SignText (altered p rights p.en_passant) text
sign-same p rights text kings (inl (quiet, e)) = inl (quiet, e)
sign-same p rights text kings (inr (inl (check, (some, e)))) =
    inr (inl (check, ((some.0, move-in_check p rights some.0 kings check some.1), e)))
sign-same p rights text kings (inr (inr (check, (none, e)))) =
    inr (inr (check, ((λ some. none (some.0, move-in_check (altered p rights p.en_passant) p.rights some.0 kings check some.1)), e)))

-- the sign behind a half-move
pub sign-after : (e : Effect) (p : Setup) (rights : Rights) (square : Option ℕ) (m : Move) (text : List ℕ) → HasKings (board_after p m e)
    → SignText (after p m e) text → SignText (after (altered p rights square) m e) text
sign-after e p rights square m text kings h =
    subst (λ (q : Setup). SignText q text) (after-same e p rights square m)
    (sign-same (after p m e) (rights_left (altered p rights square) m e) text kings h)
