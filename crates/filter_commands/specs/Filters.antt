-- The commands on filters, which change the seat alone. This project's own; the operations are those of Scid's filters.
use Rattle.std.specs.Prelude.{ℕ, List, if◌then◌else◌, codes, Option}
use Rattle.filter_seat.specs.SavedFilters.{kept_in, can_keep, saved_named, joined_with, is_kept, dropped_in}
use Rattle.filter_seat.specs.Seats.{Seat}
use Rattle.filter_seat.specs.declared.saved.SavedFilter.{SavedFilter}
use Rattle.shell_state.specs.Lines.{name_line, line_of, filter_line, no_filter_line}
use Rattle.shell_state.specs.Work.{Work, seated}

-- A command that changes the filter, and tells how many games are in: reset, clear, negate, restrict A B.
abbrev pub filtering : (List (Option ℕ) → List (Option ℕ)) → Work
filtering change = seated (λ seat. record seat { filter = change seat.filter }) (λ seat. filter_line (change seat.filter))

-- keep NAME, if a filter of this name is kept or fewer than eight are kept.
abbrev pub keep_line : List SavedFilter → List ℕ → List ℕ
keep_line saved name = if can_keep saved name then name_line (codes "kept ") name else line_of (codes "error: full filters")

abbrev pub keep_work : List ℕ → Work
keep_work name = seated (λ seat. record seat { saved = kept_in seat.saved name seat.filter }) (λ seat. keep_line seat.saved name)

-- use NAME, and NAME, or NAME: the filter joined with the one of this name, if there is one; `use` takes that one in
-- its place.
abbrev pub joined_in : (List (Option ℕ) → List (Option ℕ) → List (Option ℕ)) → List ℕ → Seat → List (Option ℕ)
joined_in join name seat = joined_with join seat.filter (saved_named seat.saved name)

abbrev pub join_line : List SavedFilter → List ℕ → List (Option ℕ) → List ℕ
join_line saved name plies = if is_kept saved name then filter_line plies else no_filter_line name

abbrev pub join_work : (List (Option ℕ) → List (Option ℕ) → List (Option ℕ)) → List ℕ → Work
join_work join name = seated (λ seat. record seat { filter = joined_in join name seat }) (λ seat. join_line seat.saved name (joined_in join name seat))

-- drop NAME
abbrev pub drop_line : List SavedFilter → List ℕ → List ℕ
drop_line saved name = if is_kept saved name then name_line (codes "dropped ") name else no_filter_line name

abbrev pub drop_work : List ℕ → Work
drop_work name = seated (λ seat. record seat { saved = dropped_in seat.saved name }) (λ seat. drop_line seat.saved name)
