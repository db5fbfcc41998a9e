-- Compacting the base. This project's own.
use Rattle.game_filter.specs.Renumbering.{renumbered}
use Rattle.std.specs.Fmt.{decimal}
use Rattle.std.specs.Prelude.{filter, ℕ, List, [], map, Option, nat_le, Bool, Some, if◌then◌else◌, ◌++◌, codes, length, sum_by, not, ◌≡◌, ◌⊎◌}
use Rattle.base_core.specs.Base.{Base}
use Rattle.base_core.specs.Compacted.{compacted}
use Rattle.base_core.specs.Represents.{Kept}
use Rattle.base_core.specs.declared.fault.What.TheVariants.{File}
use Rattle.base_files.specs.Seen.{Seen}
use Rattle.block_store.specs.Placing.{longest_file}
use Rattle.compact_base.specs.Compacting.{CopiesRecords, numbers_from}
use Rattle.filter_seat.specs.Seats.{each_filter}
use Rattle.shell_state.specs.Refusing.{refusal_line}
use Rattle.shell_state.specs.State.{State, saved_whole}
use Rattle.shell_state.specs.Work.{Work, writing}
use Rattle.shell_state.specs.Work.Price.{by_looks}
use Rattle.shell_state.specs.declared.refusing.Refusal.TheVariants.{Full}

-- The new number of each game, or none if it is deleted.
abbrev pub numbers_of : Base → List (Option ℕ)
numbers_of base = numbers_from 0 (map (λ held. held.head.deleted) base.games)

-- Whether the new games file is within its limit.
abbrev pub is_within : Base → Bool
is_within base = nat_le (compacted base).end longest_file

-- compact: the undeleted games stay, the filters and the index move with them, and the files carry the base that is left.
-- The new games file has become the current one, so that none is begun.
abbrev pub compacted_state : State → State
compacted_state s =
    record s { shared = record (saved_whole s.shared (compacted s.shared.base)) { fresh = Some [] }; seat = each_filter (renumbered (numbers_of s.shared.base)) s.seat }

abbrev pub compact_after : State → State
compact_after s = if is_within s.shared.base then compacted_state s else s

abbrev pub compacted_line : ℕ → ℕ → List ℕ
compacted_line games kept = codes "compacted " ++ decimal games ++ codes " to " ++ decimal kept ++ codes "\n"

abbrev pub compact_text : State → List ℕ
compact_text s = if is_within s.shared.base then compacted_line (length s.shared.base.games) (length (compacted s.shared.base).games) else refusal_line (Full File)

-- The records of the games that stay are read.
abbrev pub compact_work : Work
compact_work =
    record (writing compact_after compact_text (by_looks (λ looks plies. sum_by (λ look. look.len) (filter (λ look. not look.head.deleted) looks)))) { left = Some compacted }

-- What was done, whatever the files tell. The line says so and the records of the games that stay were copied, or the
-- line refuses that and what is kept is as it was.
abbrev pub DidCompact : Kept → Kept → Seen → Seen → List ℕ → Type 0
DidCompact old new before after line =
    ((line ≡ compacted_line (length old.entries) (length new.entries)) × CopiesRecords old before after) ⊎ ((line ≡ refusal_line (Full File)) × (new ≡ old))
