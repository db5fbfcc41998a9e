-- How the entries of games are kept: a ply each, beside words of bits, 64 games a word. The bit of a game tells whether it is in, and the
-- ply of a game that is out says nothing. Only private functions cite this.
use Rattle.std.specs.Prelude.{ℕ, ◌+◌, ◌/◌, ◌%◌, ◌==◌, Bool, if◌then◌else◌, List, [], ◌∷◌, Option, Some, None, slice_index_or}
use Rattle.std.specs.Int.{bit_at}

-- How many words have a bit for each of so many games.
abbrev pub words_for : ℕ → ℕ
words_for games = (games + 63) / 64

-- Whether the bit of game i is set.
abbrev pub has_bit : List ℕ → ℕ → Bool
has_bit words i = bit_at (slice_index_or words (i / 64) 0) (i % 64) == 1

-- The entry of a game with this bit and this ply.
abbrev pub entry : Bool → ℕ → Option ℕ
entry is_in ply = if is_in then Some ply else None

-- The entries of the games from number i on.
abbrev pub entries_from : ℕ → List ℕ → List ℕ → List (Option ℕ)
entries_from i words [] = []
entries_from i words (ply ∷ plies) = entry (has_bit words i) ply ∷ entries_from (i + 1) words plies

-- The entries of all games.
abbrev pub entries_of : List ℕ → List ℕ → List (Option ℕ)
entries_of words plies = entries_from 0 words plies
