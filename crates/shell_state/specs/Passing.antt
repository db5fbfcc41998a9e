-- Which games the searches read, by their signatures, and the bytes of their records. This project's own.
use Rattle.std.specs.Option.{option_map_or}
use Rattle.std.specs.Prelude.{ℕ, Option, ◌+◌, List, [], ◌∷◌, if◌then◌else◌, Bool, ◌&&◌, is_some}
use Rattle.game_filter.specs.Search.{looks_at}
use Rattle.game_filter.specs.declared.op.Op.{Op}

-- The length of the record of a game, if there is one.
abbrev pub len_in : {A : Type 0} → (A → ℕ) → Option A → ℕ
len_in len game = option_map_or len game 0

-- The length of the record of a game that is in.
abbrev pub len_if_in : Option ℕ → ℕ → ℕ
len_if_in ply len = if is_some ply then len else 0

-- The lengths of the records of the games that are in, all told.
abbrev pub filtered_len : {A : Type 0} → (A → ℕ) → List (Option ℕ) → List A → ℕ
filtered_len len [] games = 0
filtered_len len (ply ∷ plies) [] = 0
filtered_len len (ply ∷ plies) (game ∷ games) = len_if_in ply (len game) + filtered_len len plies games

-- The length of the record of a game that is read.
abbrev pub len_if : Bool → ℕ → ℕ
len_if reads len = if reads then len else 0

-- The lengths of the records of the games that are looked at and pass a test, all told.
abbrev pub searched_len : {A : Type 0} → (A → ℕ) → (A → Bool) → Op → List (Option ℕ) → List A → ℕ
searched_len len test op [] games = 0
searched_len len test op (old ∷ plies) [] = 0
searched_len len test op (old ∷ plies) (game ∷ games) = len_if (looks_at op old && test game) (len game) + searched_len len test op plies games
