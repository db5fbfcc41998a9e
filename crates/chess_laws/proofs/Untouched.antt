-- A move that touches no home square leaves all rights.
use Rattle.chess_laws.proofs.Words.{◌≡◌, false, ◌||◌, refl, sym, arith, nat_tests, Colour, White, Black, Move, Rights, Wing, KingSide, QueenSide, has_right, keeps, rights_after, is_home_square}

keeps-all : (r : Rights) (m : Move) (c : Colour) (w : Wing) → (is_home_square m.from || is_home_square m.to) ≡ false → keeps r m c w ≡ has_right r c w
keeps-all r m White KingSide none = grind (arith, nat_tests)
keeps-all r m c QueenSide none = grind (arith, nat_tests)
keeps-all r m c w none = grind (arith, nat_tests)

pub rights-untouched : (r : Rights) (m : Move) → (is_home_square m.from || is_home_square m.to) ≡ false → r ≡ rights_after r m
rights-untouched r m none =
    let all = λ (c : Colour) (w : Wing). keeps-all r m c w none in
    sym (rw (all White KingSide, all White QueenSide, all Black KingSide, all Black QueenSide) refl)
