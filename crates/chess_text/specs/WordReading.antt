-- What the reader of a word answers on its way. No public contract cites these words.
use Rattle.std.specs.Prelude.{ℕ, ◌==◌, cond, List, [], ◌∷◌}

-- The text without the spaces at its beginning.
abbrev pub passed_spaces : List ℕ → List ℕ
passed_spaces [] = []
passed_spaces (byte ∷ text) = cond (byte == 32) (passed_spaces text) (byte ∷ text)

-- The bytes up to the first space, and those from it on.
abbrev pub front_word : List ℕ → List ℕ
front_word [] = []
front_word (byte ∷ text) = cond (byte == 32) [] (byte ∷ front_word text)

abbrev pub behind_word : List ℕ → List ℕ
behind_word [] = []
behind_word (byte ∷ text) = cond (byte == 32) (byte ∷ text) (behind_word text)
