-- The parts of the line of `info`. Only private functions cite these words.
use Rattle.std.specs.Fmt.{decimal}
use Rattle.std.specs.Option.{option_map_or}
use Rattle.std.specs.Prelude.{ℕ, List, ◌++◌, codes, Bool, if◌then◌else◌, Option}

abbrev pub counts_line : ℕ → ℕ → ℕ → List ℕ
counts_line games deleted players = codes "games " ++ decimal games ++ codes " deleted " ++ decimal deleted ++ codes " players " ++ decimal players

abbrev pub numbers_line : ℕ → ℕ → ℕ → ℕ → ℕ → ℕ → List ℕ
numbers_line games deleted players events sites rounds =
    counts_line games deleted players ++ (codes " events " ++ decimal events ++ codes " sites " ++ decimal sites ++ codes " rounds " ++ decimal rounds)

abbrev pub unsaved_words : Bool → List ℕ
unsaved_words unsaved = if unsaved then codes " unsaved yes" else codes " unsaved no"

-- The depth of the position index, or that there is none.
abbrev pub index_words : Option ℕ → List ℕ
index_words index = option_map_or (λ depth. codes " index " ++ decimal depth ++ codes "\n") index (codes " index off\n")

abbrev pub info_line : ℕ → ℕ → ℕ → ℕ → ℕ → ℕ → Bool → Option ℕ → List ℕ
info_line games deleted players events sites rounds unsaved index =
    numbers_line games deleted players events sites rounds ++ (unsaved_words unsaved ++ index_words index)
