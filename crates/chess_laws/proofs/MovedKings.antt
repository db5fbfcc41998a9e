-- Where the kings stand after a move, and what is kept beside the position then.
use Rattle.chess_laws.proofs.Words.{◌≡◌, ℕ, inl, inr, ◌⊎◌, ◌↔◌, IsTrue, not, true, false, Some, None, Bool, refl, sym, ◌∙◌, ap, eq-eqb, ne_eqb, cases_eq, false≢true, Colour, King, Move, Men, man_at, put, man, other, same_kind, Setup, Effect, Null, Attacks, IsInCheck, Sound, king_square, effect_of, Case, arriving, moved, board_after, after, Legal, IsOnlyKing, king_after}
use Rattle.chess_laws.proofs.Kings.{king-only, king-stands}
use Rattle.chess_laws.proofs.Boards.{only-king, man-colour, man-kind, same_kind-true, put-same, length-put}
use Rattle.chess_laws.proofs.Keeping.{other-apart}
use Rattle.chess_laws.proofs.Following.{after-kept, after-stays, rest-stays, king-rests, going, Going, Sound-step}

-- what arrives stands on the target
pub moved-lands : (p : Setup) (m : Move) → (g : Going p m) → man_at (moved p m) m.to ≡ Some (man p.side g.becomes)
moved-lands p m g =
    put-same (put p.board m.from None) m.to (arriving p m m.promo) (length-put p.board m.from None g.goes.squares) g.goes.target ∙ g.brings

pub king-stays : (king : ℕ) (m : Move) → (m.from ≡ king → ⊥) → king_after king m ≡ king
king-stays king m h = rw (ne_eqb m.from king h)

-- the mover's king stands on the move's target, where it is what moves, and else where it stood
mover-king : (p : Setup) (m : Move) (e : Effect) (king : ℕ) → Sound p → man_at p.board king ≡ Some (man p.side King) → effect_of p m ≡ e → Case p m e →
    (m.from ≡ king) ⊎ (m.from ≡ king → ⊥) → man_at (board_after p m e) (king_after king m) ≡ Some (man p.side King)
mover-king p m Null king sound stands is case (inl moves) = rw (eq-eqb m.from king moves, case.stays) case.stands
mover-king p m Null king sound stands is case (inr away) = rw (king-stays king m away) stands
mover-king p m e king sound stands is case (inl moves) =
    let g = going p m e sound is case (λ n. cc) in
    let king_goes : g.kind ≡ King = man-kind p.side p.side g.kind King (sym g.goes.from ∙ ap (man_at p.board) moves ∙ stands) in
    let becomes = same_kind-true g.becomes King (g.goes.same_king ∙ ap (λ k. same_kind k King) king_goes) in
    rw (eq-eqb m.from king moves)
    (rest-stays p m e sound is case (λ n. cc) (man p.side King) (king-rests p m p.side) m.to (moved-lands p m g ∙ ap (λ k. Some (man p.side k)) becomes))
mover-king p m e king sound stands is case (inr away) =
    let g = going p m e sound is case (λ n. cc) in
    rw (king-stays king m away)
    (after-stays p m e sound is case (man p.side King) (king-rests p m p.side) king (λ h. away (sym h))
    (λ h. g.goes.no_king p.side (ap (man_at p.board) (sym h) ∙ stands)) stands)

-- the other king stays
pub resting-king : (p : Setup) (m : Move) (e : Effect) (king : ℕ) → Sound p → man_at p.board king ≡ Some (man (other p.side) King) → effect_of p m ≡ e → Case p m e →
    man_at (board_after p m e) king ≡ Some (man (other p.side) King)
resting-king p m Null king sound stands is case = stands
resting-king p m e king sound stands is case =
    let g = going p m e sound is case (λ n. cc) in
    after-stays p m e sound is case (man (other p.side) King) (king-rests p m (other p.side)) king
    (λ h. other-apart p.side (man-colour p.side (other p.side) g.kind King (sym g.goes.from ∙ ap (man_at p.board) (sym h) ∙ stands)))
    (λ h. g.goes.no_king (other p.side) (ap (man_at p.board) (sym h) ∙ stands)) stands

-- the mover's king after an allowed move, the only one of its colour
pub only-king-after : (p : Setup) (m : Move) (king : ℕ) → Sound p → IsOnlyKing p.board p.side king → Case p m (effect_of p m) →
    IsOnlyKing (board_after p m (effect_of p m)) p.side (king_after king m)
only-king-after p m king sound only case =
    only-king (board_after p m (effect_of p m)) p.side (king_after king m) (after-kept p m (effect_of p m) sound refl case).kings
    (mover-king p m (effect_of p m) king sound only.stands refl case (cases_eq m.from king))

pub legal-allowed : (p : Setup) (m : Move) → Legal p m → Case p m (effect_of p m)
legal-allowed p m (q, step) = step.allowed

pub legal-safe : (p : Setup) (m : Move) → Legal p m → IsInCheck (board_after p m (effect_of p m)) p.side → ⊥
legal-safe p m (q, step) check = step.safe (rw step.becomes check)

pub legal-of : (p : Setup) (m : Move) → Case p m (effect_of p m) → (IsInCheck (board_after p m (effect_of p m)) p.side → ⊥) → Legal p m
legal-of p m case safe = (after p m (effect_of p m), record { allowed = case; becomes = refl; safe = safe })

pub Sound-after : (p : Setup) (m : Move) → Sound p → Legal p m → Sound (after p m (effect_of p m))
Sound-after p m sound legal = Sound-step p m sound (legal-allowed p m legal) (legal-safe p m legal)

-- so each king is found on its first square again
pub mover-square : (p : Setup) (m : Move) (c : Colour) (king : ℕ) → p.side ≡ c → Sound p → Legal p m → king ≡ king_square p.board c →
    king_after king m ≡ king_square (board_after p m (effect_of p m)) c
mover-square p m c king side sound legal at =
    let stands : man_at p.board king ≡ Some (man p.side King) = rw (at, side) (king-stands p.board c (sound.kings c)) in
    king-only (board_after p m (effect_of p m)) c (king_after king m) ((Sound-after p m sound legal).kings c)
    (mover-king p m (effect_of p m) king sound stands refl (legal-allowed p m legal) (cases_eq m.from king) ∙ ap (λ d. Some (man d King)) side)

pub resting-square : (p : Setup) (m : Move) (c : Colour) (king : ℕ) → other p.side ≡ c → Sound p → Legal p m → king ≡ king_square p.board c →
    king ≡ king_square (board_after p m (effect_of p m)) c
resting-square p m c king side sound legal at =
    let stands : man_at p.board king ≡ Some (man (other p.side) King) = rw (at, side) (king-stands p.board c (sound.kings c)) in
    king-only (board_after p m (effect_of p m)) c king ((Sound-after p m sound legal).kings c)
    (resting-king p m (effect_of p m) king sound stands refl (legal-allowed p m legal) ∙ ap (λ d. Some (man d King)) side)

-- the one king of a colour is in check where he is attacked
pub safe-told : (men : Men) (c : Colour) (s : ℕ) (test : Bool) → IsOnlyKing men c s → (IsTrue test ↔ Attacks men (other c) s) → IsTrue (not test) ↔ (IsInCheck men c → ⊥)
safe-told men c s true only told = ((λ h. absurd (false≢true h)), (λ none. absurd (none (s, only.stands, told.0 refl))))
safe-told men c s false only told =
    ((λ h check. false≢true (told.1 (rw (only.only check.0 check.1) at check.2))), (λ none. refl))
