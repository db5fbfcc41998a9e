-- What comes to a square makes one move, whose rule allows it.
use Rattle.chess_laws.proofs.Words.{◌≡◌, ℕ, inl, inr, true, Some, refl, sym, ◌∙◌, ap, subst, arith, Any, false≢true, nat_tests, Colour, White, Black, Kind, King, Pawn, man_at, man, Setup, Wing, KingSide, QueenSide, Plain, Castle, king_steps, Leaps, king_home, king_target, effect_as, option_map_or, promotes_rightly, Case, CastleCase, GoesPlainly, HasNoOwn, Comes, IsKnown, Known, goes}
use Rattle.chess_laws.specs.Geometry.{shift}
use Rattle.chess_laws.specs.LegalNow.{leaps_now}
use Rattle.chess_laws.proofs.Boards.{man-kind}
use Rattle.chess_laws.proofs.Deciding.{any-Decides, leaps-Decides}
use Rattle.chess_laws.proofs.Keeping.{castle-apart}
use Rattle.chess_laws.proofs.PawnMoves.{pawn-known}

-- a man other than a pawn, whose move is a plain one
plainly : (p : Setup) (a b : ℕ) (k : Kind) → man_at p.board a ≡ Some (man p.side k) → effect_as k p (goes a b) ≡ Plain →
    GoesPlainly p k (goes a b) → promotes_rightly p.side k (goes a b) ≡ true → HasNoOwn p.board p.side b → (k ≡ Pawn → ⊥) →
    Known p a b (effect_as k p (goes a b))
plainly p a b k stands plain go promotes free other = record {
  effect = sym (ap (λ o. option_map_or (λ m. effect_as m.kind p (goes a b)) o Plain) stands);
  allowed = subst (Case p (goes a b)) (sym plain) (record { kind = k; stands = stands; goes = go; promotes = promotes });
  leaves = λ same. free k (ap (man_at p.board) same ∙ stands);
  plain = λ may. other (man-kind p.side p.side k Pawn (sym stands ∙ may.stands));
}

-- no king's step is as long as castling
no-leap : (c : Colour) (wing : Wing) → Any (Leaps (king_home c) (king_target c wing)) king_steps → ⊥
unfolding leaps_now shift
no-leap White KingSide any = false≢true ((any-Decides (leaps_now 4 6) (Leaps 4 6) (leaps-Decides 4 6) king_steps).1 any)
no-leap White QueenSide any = false≢true ((any-Decides (leaps_now 4 2) (Leaps 4 2) (leaps-Decides 4 2) king_steps).1 any)
no-leap Black KingSide any = false≢true ((any-Decides (leaps_now 60 62) (Leaps 60 62) (leaps-Decides 60 62) king_steps).1 any)
no-leap Black QueenSide any = false≢true ((any-Decides (leaps_now 60 58) (Leaps 60 58) (leaps-Decides 60 58) king_steps).1 any)

steps-effect : (p : Setup) (a b : ℕ) → (b ≡ a → ⊥) → Any (Leaps a b) king_steps → effect_as King p (goes a b) ≡ Plain
steps-effect p a b leaves any =
    let near : a ≡ king_home p.side → b ≡ king_target p.side KingSide → ⊥ = λ x y. no-leap p.side KingSide (rw (x, y) at any) in
    let far : a ≡ king_home p.side → b ≡ king_target p.side QueenSide → ⊥ = λ x y. no-leap p.side QueenSide (rw (x, y) at any) in
    grind (arith, nat_tests)

castles-effect : (p : Setup) (c : Colour) (wing : Wing) (a b : ℕ) → p.side ≡ c → a ≡ king_home c → b ≡ king_target c wing →
    effect_as King p (goes a b) ≡ Castle wing
castles-effect p White KingSide a b side from to = rw (side, from, to) refl
castles-effect p c QueenSide a b side from to = rw (side, from, to) refl
castles-effect p c wing a b side from to = rw (side, from, to) refl

-- a king steps, or castles
king-known : (p : Setup) (a b : ℕ) → man_at p.board a ≡ Some (man p.side King) → Comes p King a b → Known p a b (effect_as King p (goes a b))
king-known p a b stands (inl step) =
    plainly p a b King stands (steps-effect p a b (λ same. step.1 King (ap (man_at p.board) same ∙ stands)) step.0) step refl step.1 (λ e. absurd (cc))
king-known p a b stands (inr (from, (wing, (to, castles)))) =
    let case : CastleCase p (goes a b) wing =
    record { stands = stands; right = castles.right; empty = castles.empty; safe = castles.safe; promo = refl } in
    let free = (castle-apart p.board p.side wing castles.empty).king_to in
    record {
      effect = sym (ap (λ o. option_map_or (λ m. effect_as m.kind p (goes a b)) o Plain) stands);
      allowed = subst (Case p (goes a b)) (sym (castles-effect p p.side wing a b refl from to)) case;
      leaves = λ same. let e = sym (ap (man_at p.board) to ∙ free) ∙ ap (man_at p.board) same ∙ stands in absurd (cc);
      plain = λ may. let e = man-kind p.side p.side King Pawn (sym stands ∙ may.stands) in absurd (cc);
    }

-- so that move is known
pub known : (p : Setup) (a b : ℕ) (k : Kind) → man_at p.board a ≡ Some (man p.side k) → Comes p k a b → IsKnown p k b →
    Known p a b (effect_as k p (goes a b))
known p a b King stands comes is = king-known p a b stands comes
known p a b Pawn stands comes is = pawn-known p a b stands is comes
known p a b k stands comes is = plainly p a b k stands refl comes refl comes.1 (λ e. absurd (cc))
