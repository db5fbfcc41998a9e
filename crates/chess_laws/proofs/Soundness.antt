-- A setup that passes the tests keeps the rules of a position.
use Rattle.chess_laws.proofs.Words.{Option, length, ◌<◌, leb, ◌≡◌, ℕ, ◌≤◌, Bool, ◌&&◌, IsTrue, ◌↔◌, count_by, sym, ◌∙◌, arith, and_parts, le-leb, leb-true, Colour, White, Black, King, Rook, Men, man_at, other, is_man, is_of, Wing, KingSide, QueenSide, Rights, Attacks, IsInCheck, StandAtHome, has_right, king_home, rook_home, Sound, HasPawnsInside, HasFitEnPassant, HasFewMen, HasKings, king_square, is_at_home, rights_of, has_bit}
use Rattle.chess_laws.proofs.Boards.{Sound-kept}
use Rattle.chess_laws.proofs.Kings.{king-stands, king-only, is_man-Some}

pub few_men : (men : Men) → count_by (is_of White) men ≤ 16 → count_by (is_of Black) men ≤ 16 → HasFewMen men
few_men men white black White = white
few_men men white black Black = black

pub few_white : (men : Men) (n : ℕ) → 16 < n → n ≡ count_by (is_of White) men → IsTrue (leb n 16) ↔ HasFewMen men
few_white men n more is = ((λ h. absurd (omega (arith, leb-true n 16 h))), (λ few. absurd (omega (arith, few White))))

pub few_black : (men : Men) (w n : ℕ) → w ≤ 16 → w ≡ count_by (is_of White) men → n ≡ count_by (is_of Black) men → IsTrue (leb n 16) ↔ HasFewMen men
few_black men w n white at is =
    ((λ h. few_men men (omega arith) (omega (arith, leb-true n 16 h))), (λ few. le-leb n 16 (omega (arith, few Black))))

pub both_kings : (men : Men) → count_by (is_man White King) men ≡ 1 → count_by (is_man Black King) men ≡ 1 → HasKings men
both_kings men white black White = white
both_kings men white black Black = black

-- the king is in check where its square is attacked
pub checked : (men : Men) (c : Colour) (s : ℕ) → count_by (is_man c King) men ≡ 1 → s ≡ king_square men c → Attacks men (other c) s ↔ IsInCheck men c
checked men c s one at = (
  (λ h. (s, rw at (king-stands men c one), h)),
  (λ h. let same : h.0 ≡ s = king-only men c h.0 one h.1 ∙ sym at in rw (← same) h.2),
)

at-home : (men : Men) (c : Colour) (w : Wing) (bit : Bool) → IsTrue (bit && is_at_home men c w) → StandAtHome men c w
at-home men c w bit h =
    let king = is_man c King (man_at men (king_home c)) in
    let rook = is_man c Rook (man_at men (rook_home c w)) in
    let both = and_parts king rook (and_parts bit (king && rook) h).1 in
    record { king = is_man-Some c King (man_at men (king_home c)) both.0; rook = is_man-Some c Rook (man_at men (rook_home c w)) both.1 }

-- the rights that are left stand
rights_fit : (men : Men) (bits : ℕ) (c : Colour) (w : Wing) → IsTrue (has_right (rights_of men bits) c w) → StandAtHome men c w
rights_fit men bits White KingSide h = at-home men White KingSide (has_bit bits 0) h
rights_fit men bits White QueenSide h = at-home men White QueenSide (has_bit bits 1) h
rights_fit men bits Black KingSide h = at-home men Black KingSide (has_bit bits 2) h
rights_fit men bits Black QueenSide h = at-home men Black QueenSide (has_bit bits 3) h

-- all together
pub sound_of : (men : Men) (c : Colour) (bits : ℕ) (r : Rights) (square : Option ℕ) → length men ≡ 64 → HasKings men → HasPawnsInside men → HasFewMen men
    → (IsInCheck men (other c) → ⊥) → r ≡ rights_of men bits → HasFitEnPassant c square → Sound (record { board = men; side = c; rights = r; en_passant = square })
sound_of men c bits r square len kings pawns few quiet is fit =
    Sound-kept (record { board = men; side = c; rights = r; en_passant = square }) (record { squares = len; kings = kings; pawns = pawns; few = few }) quiet
    (λ d w h. rights_fit men bits d w (rw is at h)) fit
