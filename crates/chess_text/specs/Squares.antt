-- The names of files, ranks and squares (PGN standard, 8.2.3.1).
use Rattle.std.specs.Prelude.{ℕ, ◌+◌, List, [], ◌∷◌, ◌++◌}
use Rattle.chess_laws.specs.Geometry.{file_of, rank_of}

-- A file as a letter from a on, and a rank as a digit from 1 on; both are counted from 0.
abbrev pub file_text : ℕ → List ℕ
file_text file = (97 + file) ∷ []

abbrev pub rank_text : ℕ → List ℕ
rank_text rank = (49 + rank) ∷ []

-- A square as its file letter and its rank digit.
abbrev pub square_text : ℕ → List ℕ
square_text s = file_text (file_of s) ++ rank_text (rank_of s)
