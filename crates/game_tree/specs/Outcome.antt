-- The texts of results (PGN standard, 8.1.1.7).
use Rattle.std.specs.Prelude.{ℕ, List, [], ◌∷◌, Option, codes}
use Rattle.std.specs.List.{find}
use Rattle.std.specs.Str.{bytes_eq}
use Rattle.game_tree.specs.declared.head.Outcome.{Outcome}
use Rattle.game_tree.specs.declared.head.Outcome.TheVariants.{White, Black, Draw, Unknown}

-- The number of a result, in the order of the declaration.
abbrev pub outcome_number : Outcome → ℕ
outcome_number Unknown = 0
outcome_number White = 1
outcome_number Black = 2
outcome_number Draw = 3

-- The text of a result; `*` is one that is unknown or of a game in progress.
abbrev pub outcome_text : Outcome → List ℕ
outcome_text White = codes "1-0"
outcome_text Black = codes "0-1"
outcome_text Draw = codes "1/2-1/2"
outcome_text Unknown = codes "*"

-- The result that a text is: exactly one of the four.
abbrev pub outcome_read : List ℕ → Option Outcome
outcome_read text = find (λ outcome. bytes_eq text (outcome_text outcome)) (White ∷ Black ∷ Draw ∷ Unknown ∷ [])
