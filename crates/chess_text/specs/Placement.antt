-- The piece placement, the first field of a FEN (PGN standard, 16.1.3.1).
use Rattle.std.specs.Prelude.{◌≡◌, ℕ, zero, suc, ◌+◌, ◌≤◌, ◌⊎◌, List, [], ◌∷◌, ◌++◌, Some, None, replicate, length}
use Rattle.cell_core.specs.declared.man.Man.{Man}
use Rattle.cell_core.specs.Board.{Men}
use Rattle.chess_text.specs.Letters.{letter_of}

-- What one byte of a rank stands for: a letter for its man, a digit from 1 to 8 for so many empty squares
-- (PGN standard, 16.1.3.1).
abbrev pub Stands : ℕ → Men → Type 0
Stands byte squares =
    ((man : Man) × (byte ≡ letter_of man) × (squares ≡ Some man ∷ []))
    ⊎ ((n : ℕ) × (1 ≤ n) × (n ≤ 8) × (byte ≡ 48 + n) × (squares ≡ replicate n None))

-- The text of a row of squares from the left: what its bytes stand for, one after another. Digits may stand side by
-- side (this project's own).
abbrev pub RankText : List ℕ → Men → Type 0
RankText [] squares = squares ≡ []
RankText (byte ∷ text) squares =
    (first : Men) × (rest : Men)
    × (squares ≡ first ++ rest) × Stands byte first × RankText text rest

-- The text of the ranks from rank n + 1 down to the first, each of eight squares, with / between them. The squares
-- stand in their own order, the first rank first (PGN standard, 16.1.3.1).
unfoldable pub RanksText : ℕ → List ℕ → Men → Type 0
RanksText zero text squares = RankText text squares × (length squares ≡ 8)
RanksText (suc n) text squares =
    (top : List ℕ) × (below : List ℕ) × (rank : Men) × (lower : Men)
    × (text ≡ top ++ 47 ∷ below) × (squares ≡ lower ++ rank)
    × RankText top rank × (length rank ≡ 8) × RanksText n below lower

-- The text of a whole placement, the first field of a FEN: eight ranks from the eighth down (PGN standard, 16.1.3.1).
unfoldable pub PlacementText : List ℕ → Men → Type 0
PlacementText text board = RanksText 7 text board
