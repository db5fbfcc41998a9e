-- The tests of setups decide.
use Rattle.chess_laws.proofs.Words.{◌≡◌, Bool, true, ◌==◌, ap, refl, arith, nat_tests, Decides, Decides-and, Decides-like, White, same_colour-Decides, same_men-Decides, Rights, Setup, start_men, start_setup}
use Rattle.chess_laws.specs.Position.{bits_of, is_start}
use Rattle.chess_laws.proofs.Running.{is_none-Decides}

four : (a b c d : Bool) → (bits_of (record { white_king_side = a; white_queen_side = b; black_king_side = c; black_queen_side = d }) == 15) ≡ true
    → (record { white_king_side = a; white_queen_side = b; black_king_side = c; black_queen_side = d }) ≡ start_setup.rights
four true true true true h = refl
four a b c d h = absurd (grind (arith, nat_tests))

all_rights : (r : Rights) → Decides (bits_of r == 15) (r ≡ start_setup.rights)
all_rights r = (λ h. four r.white_king_side r.white_queen_side r.black_king_side r.black_queen_side h, λ e. rw e refl)

-- two setups are the same where their parts are
pub is_start-Decides : (p : Setup) → Decides (is_start p) (p ≡ start_setup)
unfolding is_start
is_start-Decides p =
    let n = start_setup in
    Decides-like (is_start p)
    (λ (h : (p.board ≡ n.board) × ((p.side ≡ n.side) × ((p.rights ≡ n.rights) × (p.en_passant ≡ n.en_passant)))).
    λ i. record { board = h.0 i; side = h.1.0 i; rights = h.1.1.0 i; en_passant = h.1.1.1 i })
    (λ (h : p ≡ n). (ap (λ (s : Setup). s.board) h, (ap (λ (s : Setup). s.side) h, (ap (λ (s : Setup). s.rights) h, ap (λ (s : Setup). s.en_passant) h))))
    (Decides-and _ _ (same_men-Decides p.board start_men)
    (Decides-and _ _ (same_colour-Decides p.side White) (Decides-and _ _ (all_rights p.rights) (is_none-Decides p.en_passant))))
