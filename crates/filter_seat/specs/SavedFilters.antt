-- Filters that are kept by name, at most eight, in the order in which their names were first kept. This project's own.
use Rattle.std.specs.Option.{option_map_or}
use Rattle.std.specs.List.{position}
use Rattle.std.specs.Prelude.{ℕ, List, Option, ◌+◌, [], ◌∷◌, ◌++◌, None, zero, suc, option_map, slice_get, option_and_then, Bool, ◌||◌, is_some, nat_lt, length, Some, if◌then◌else◌, slice_set, take, drop}
use Rattle.std.specs.Str.{bytes_eq}
use Rattle.game_filter.specs.Renumbering.{renumbered}
use Rattle.filter_seat.specs.declared.saved.SavedFilter.{SavedFilter}

-- A filter that is kept, with its entries changed.
abbrev pub kept_with : (List (Option ℕ) → List (Option ℕ)) → SavedFilter → SavedFilter
kept_with change kept = record kept { plies = change kept.plies }

-- With the entries of the games that stay.
abbrev pub kept_renumbered : List (Option ℕ) → SavedFilter → SavedFilter
kept_renumbered to = kept_with (renumbered to)

-- Without the added game.
abbrev pub without_last : SavedFilter → SavedFilter
without_last = kept_with (λ plies. plies ++ None ∷ [])

-- A game that is in is in at ply 0.
abbrev pub to_start : ℕ → List (Option ℕ) → List (Option ℕ)
to_start game [] = []
to_start zero (ply ∷ plies) = option_map (λ _. 0) ply ∷ plies
to_start (suc game) (ply ∷ plies) = ply ∷ to_start game plies

abbrev pub kept_to_start : ℕ → SavedFilter → SavedFilter
kept_to_start game = kept_with (to_start game)

-- How many filters are kept at most.
abbrev pub most_saved : ℕ
most_saved = 8

-- The place of the filter of a name, or none if no filter of that name is kept.
abbrev pub place_of : List SavedFilter → List ℕ → Option ℕ
place_of saved name = position (λ kept. bytes_eq kept.name name) saved

-- The filter of a name.
abbrev pub saved_named : List SavedFilter → List ℕ → Option (List (Option ℕ))
saved_named saved name = option_and_then (λ place. option_map (λ kept. kept.plies) (slice_get saved place)) (place_of saved name)

-- Whether a filter of this name is kept.
abbrev pub is_kept : List SavedFilter → List ℕ → Bool
is_kept saved name = is_some (place_of saved name)

-- Whether a filter can be kept under this name: in the place of one that has it, or as one more.
abbrev pub can_keep : List SavedFilter → List ℕ → Bool
can_keep saved name = is_kept saved name || nat_lt (length saved) most_saved

-- The filters after one was kept under this name, if there was room for it.
abbrev pub kept_at : List SavedFilter → SavedFilter → Option ℕ → List SavedFilter
kept_at saved new (Some place) = slice_set saved place new
kept_at saved new None = if nat_lt (length saved) most_saved then saved ++ new ∷ [] else saved

abbrev pub kept_in : List SavedFilter → List ℕ → List (Option ℕ) → List SavedFilter
kept_in saved name plies = kept_at saved (record { name = name; plies = plies }) (place_of saved name)

-- The filters without the one of this name.
unfoldable pub dropped_in : List SavedFilter → List ℕ → List SavedFilter
dropped_in saved name = option_map_or (λ place. take place saved ++ drop (place + 1) saved) (place_of saved name) saved

-- A filter joined with the one of a name, if there is one.
abbrev pub joined_with : (List (Option ℕ) → List (Option ℕ) → List (Option ℕ)) → List (Option ℕ) → Option (List (Option ℕ)) → List (Option ℕ)
joined_with join own other = option_map_or (join own) other own
