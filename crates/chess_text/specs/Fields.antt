-- The fields of a FEN after the placement (PGN standard, 16.1.3), and how a text is cut into fields.
use Rattle.std.specs.Prelude.{◌≡◌, ◌≢◌, ℕ, ◌+◌, ◌<◌, ◌⊎◌, ◌==◌, Bool, false, cond, List, [], ◌∷◌, ◌++◌, Option, Some, None, replicate, length, count_by}
use Rattle.std.specs.List.{AllByRecursion}
use Rattle.std.specs.Char.{IsAsciiDigit}
use Rattle.cell_core.specs.declared.man.Colour.{Colour}
use Rattle.cell_core.specs.declared.man.Colour.TheVariants.{White, Black}
use Rattle.chess_laws.specs.declared.setup.Rights.{Rights}
use Rattle.chess_laws.specs.Geometry.{rank_of}
use Rattle.chess_laws.specs.Position.{en_passant_rank}
use Rattle.chess_text.specs.Squares.{square_text}

-- A word has a byte at least, and no space.
abbrev pub IsWord : List ℕ → Type 0
IsWord word = (0 < length word) × AllByRecursion (λ byte. byte ≢ 32) word

-- What stands behind a word: nothing more, or a space.
abbrev pub EndsWord : List ℕ → Type 0
EndsWord [] = Unit {0}
EndsWord (byte ∷ rest) = byte ≡ 32

-- A text is these words, with one space or more between two of them; spaces at its ends count for nothing (this
-- project's own: the standard has one space).
abbrev pub Spaced : List (List ℕ) → List ℕ → Type 0
Spaced [] text = (spaces : ℕ) × (text ≡ replicate spaces 32)
Spaced (word ∷ words) text =
    (spaces : ℕ) × (rest : List ℕ) × (text ≡ replicate spaces 32 ++ (word ++ rest))
    × IsWord word × EndsWord rest × Spaced words rest

-- A word, or the default for an empty one.
abbrev pub or_word : List ℕ → List ℕ → List ℕ
or_word [] default = default
or_word (byte ∷ word) default = byte ∷ word

-- The side to move, the second field: w or b (PGN standard, 16.1.3.2).
abbrev pub side_text : Colour → List ℕ
side_text White = 119 ∷ []
side_text Black = 98 ∷ []

-- How often a letter stands in a word.
abbrev pub times : ℕ → List ℕ → ℕ
times letter word = count_by (λ byte. byte == letter) word

-- Once if the right is there, else not at all.
abbrev pub once : Bool → ℕ
once right = cond right 1 0

-- A word of castling rights: K, Q, k and q, each once if the right is there, in any order, and nothing else (PGN
-- standard, 16.1.3.3).
pub record NamesRights (word : List ℕ) (rights : Rights) : Type 0 where
  pub some : 0 < length word
  pub white_king_side : times 75 word ≡ once rights.white_king_side
  pub white_queen_side : times 81 word ≡ once rights.white_queen_side
  pub black_king_side : times 107 word ≡ once rights.black_king_side
  pub black_queen_side : times 113 word ≡ once rights.black_queen_side
  pub no_other : times 75 word + times 81 word + (times 107 word + times 113 word) ≡ length word

-- No right.
abbrev pub no_rights : Rights
no_rights =
    record { white_king_side = false; white_queen_side = false; black_king_side = false; black_queen_side = false }

-- The castling rights, the third field: - for none, or a word of them (PGN standard, 16.1.3.3).
abbrev pub RightsText : List ℕ → Rights → Type 0
RightsText word rights = ((word ≡ 45 ∷ []) × (rights ≡ no_rights)) ⊎ NamesRights word rights

-- The en passant square, the fourth field: - for none, or a square of the sixth rank with White to move and of the third
-- with Black (PGN standard, 16.1.3.4).
abbrev pub EnPassantText : Colour → List ℕ → Option ℕ → Type 0
EnPassantText side word None = word ≡ 45 ∷ []
EnPassantText side word (Some s) = (rank_of s ≡ en_passant_rank side) × (word ≡ square_text s)

-- A counter, the fifth field and the sixth: decimal digits (PGN standard, 16.1.3.5 and 16.1.3.6).
abbrev pub CounterText : List ℕ → Type 0
CounterText word = (0 < length word) × AllByRecursion IsAsciiDigit word
