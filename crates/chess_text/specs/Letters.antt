-- The letters of men (PGN standard, 8.2.3.2 and 16.1.3.1).
use Rattle.std.specs.Prelude.{ℕ, ◌+◌}
use Rattle.cell_core.specs.declared.man.Colour.{Colour}
use Rattle.cell_core.specs.declared.man.Colour.TheVariants.{White, Black}
use Rattle.cell_core.specs.declared.man.Kind.{Kind}
use Rattle.cell_core.specs.declared.man.Kind.TheVariants.{King, Queen, Rook, Bishop, Knight, Pawn}
use Rattle.cell_core.specs.declared.man.Man.{Man}

-- The capital letter of a kind of man: K, Q, R, B, N, P (PGN standard, 8.2.3.2).
abbrev pub capital_of : Kind → ℕ
capital_of King = 75
capital_of Queen = 81
capital_of Rook = 82
capital_of Bishop = 66
capital_of Knight = 78
capital_of Pawn = 80

-- White's letters are capital, Black's small, which is 32 more (PGN standard, 16.1.3.1).
abbrev pub letter_in : Colour → ℕ → ℕ
letter_in White capital = capital
letter_in Black capital = capital + 32

-- The letter of a man in a placement (PGN standard, 16.1.3.1).
abbrev pub letter_of : Man → ℕ
letter_of man = letter_in man.colour (capital_of man.kind)
