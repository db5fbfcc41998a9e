use Rattle.chess_laws.proofs.Words.{refl, inl, inr, false≢true, King, Knight, Pawn, other, king_steps, knight_steps, pawn_captures}
use Rattle.chess_laws.proofs.Attackers.{attackers-of, by-attackers}
use Rattle.chess_laws.proofs.attack.attacks_left.Goals as goal

pub returns-then-slides_left : goal.returns-then-slides_left
returns-then-slides_left c = λ new l. (λ h. by-attackers new c.args.by c.args.s (inl ((c.if-slides_left.ensures new l).0 refl)), λ h. refl)

pub returns-then-leaps : goal.returns-then-leaps
returns-then-leaps c = λ new l. (λ h. by-attackers new c.args.by c.args.s (inr (inl ((c.if-leaps.ensures new c.args.by Knight c.args.s knight_steps (c.of_kind.ensures new c.args.by l) c.knight_squares.ensures.on_board c.knight_squares.ensures.leaps).0 refl))), λ h. refl)

pub returns-then-leaps-2 : goal.returns-then-leaps-2
returns-then-leaps-2 c = λ new l. (λ h. by-attackers new c.args.by c.args.s (inr (inr (inl ((c.if-leaps-2.ensures new c.args.by Pawn c.args.s (pawn_captures (other c.args.by)) (c.of_kind-2.ensures new c.args.by l) c.capture_squares.ensures.on_board (rw (← c.other.ensures.side) c.capture_squares.ensures.leaps)).0 refl)))), λ h. refl)

pub returns : goal.returns
returns c = λ new l. (
  λ h. by-attackers new c.args.by c.args.s (inr (inr (inr ((c.leaps-3.ensures new c.args.by King c.args.s king_steps (c.of_kind-3.ensures new c.args.by l) c.king_squares.ensures.on_board c.king_squares.ensures.leaps).0 h)))),
  λ h. elim (attackers-of new c.args.by c.args.s h) [
    | inl slid ↦ absurd (false≢true ((c.if-slides_left.ensures new l).1 slid))
    | inr (inl any) ↦ absurd (false≢true ((c.if-leaps.ensures new c.args.by Knight c.args.s knight_steps (c.of_kind.ensures new c.args.by l) c.knight_squares.ensures.on_board c.knight_squares.ensures.leaps).1 any))
    | inr (inr (inl any)) ↦ absurd (false≢true ((c.if-leaps-2.ensures new c.args.by Pawn c.args.s (pawn_captures (other c.args.by)) (c.of_kind-2.ensures new c.args.by l) c.capture_squares.ensures.on_board (rw (← c.other.ensures.side) c.capture_squares.ensures.leaps)).1 any))
    | inr (inr (inr any)) ↦ (c.leaps-3.ensures new c.args.by King c.args.s king_steps (c.of_kind-3.ensures new c.args.by l) c.king_squares.ensures.on_board c.king_squares.ensures.leaps).1 any
  ],
)
