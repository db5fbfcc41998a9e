-- A filter is a list of optional plies, one per game: the ply at which the game is in, or none if
-- it is out. Each operation on filters is a function of such lists. This project's own; the
-- operations are those of Scid's filters.
use Rattle.std.specs.Prelude.{ℕ, ◌≡◌, ◌<◌, ◌+◌, ◌*◌, ◌==◌, nat_le, ◌&&◌, if◌then◌else◌, List, Option, Some, None, map, replicate, count_by, is_some, length, slice_index_or}
use Rattle.std.specs.Int.{bit_at}
use Rattle.std.specs.List.{enumerate_from, zip}
use Rattle.std.specs.Option.{option_and, option_or}

-- The number of games that are in.
abbrev pub count_in : List (Option ℕ) → ℕ
count_in plies = count_by is_some plies

-- The bits of a word tell which of the 64 games from number 64 k on are in.
abbrev pub AreMarks : List (Option ℕ) → ℕ → ℕ → Type 0
AreMarks plies k word =
    (j : ℕ) → j < 64 → 64 * k + j < length plies → (bit_at word j == 1) ≡ is_some (slice_index_or plies (64 * k + j) None)

-- The filter of n games that has all of them in, at ply 0.
abbrev pub all_in : ℕ → List (Option ℕ)
all_in n = replicate n (Some 0)

-- The filter of n games that has none of them in.
abbrev pub all_out : ℕ → List (Option ℕ)
all_out n = replicate n None

-- A game that is in goes out, and one that is out comes in at ply 0.
abbrev pub turned : Option ℕ → Option ℕ
turned (Some _) = None
turned None = Some 0

-- Each game turned.
abbrev pub negated : List (Option ℕ) → List (Option ℕ)
negated plies = map turned plies

-- A game that is in both filters keeps the own ply, and every other is out.
abbrev pub in_both : Option ℕ → Option ℕ → Option ℕ
in_both own other = option_and other own

-- Two filters of equally many games joined game by game.
abbrev pub joined : (Option ℕ → Option ℕ → Option ℕ) → List (Option ℕ) → List (Option ℕ) → List (Option ℕ)
joined join owns others = map (λ (both : Option ℕ × Option ℕ). join both.0 both.1) (zip owns others)

-- The games that are in both filters, at the own plies.
abbrev pub intersection : List (Option ℕ) → List (Option ℕ) → List (Option ℕ)
intersection owns others = joined in_both owns others

-- The games that are in either filter, each at its own ply if it has one, else at the other's.
abbrev pub union : List (Option ℕ) → List (Option ℕ) → List (Option ℕ)
union owns others = joined option_or owns others

-- The entry of game i, if i is from first to last, else none.
abbrev pub entry_within : ℕ → ℕ → ℕ → Option ℕ → Option ℕ
entry_within first last i ply = if nat_le first i && nat_le i last then ply else None

-- The filter with every game below first or above last out.
abbrev pub restricted : ℕ → ℕ → List (Option ℕ) → List (Option ℕ)
restricted first last plies = map (λ (game : ℕ × Option ℕ). entry_within first last game.0 game.1) (enumerate_from 0 plies)
