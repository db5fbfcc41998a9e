-- Laws of the rows that differ between two states.
use Rattle.std.proofs.Common.{◌≡◌, ◌≤◌, ℕ, List, Option, length, map, refl, sym, subst, ap₂, ◌∙◌, arith}
use Rattle.std.proofs.lemmas.List.{length-map}
use Rattle.cell_core.specs.Packed.{Packed}
use Rattle.game_filter.specs.Renumbering.{renumbered}
use Rattle.shell_state.specs.Slots.{exactly_on, hit_of_game}
use Rattle.shell_state.specs.Slots.Slot.{shows}
use Rattle.shell_state.specs.State.{HasFilters, State}
use Rattle.tree_live.proofs.FewLaws.{rows-few}
use Rattle.tree_live.proofs.StayingLaws.{rows-few-staying}
use Rattle.tree_live.specs.RowChanges.{rows_changed}
use Rattle.tree_live.specs.Watching.{all_changes, hits_in, staying}
use Rattle.tree_live.specs.declared.entry.Entry.{Entry}
use Rattle.tree_rows.specs.Rows.{rows_of}
use Rattle.tree_rows.specs.declared.hit.GameHit.{GameHit}
use Rattle.view_commands.proofs.HitLaws.{new_hits, under_count}
use Rattle.view_commands.specs.Views.{changes_of, entries_of, shown_hits}

-- The hits of the games of a state, one each.
abbrev game_hits : State → Packed → List (Option GameHit)
game_hits s board = map (hit_of_game (exactly_on board)) s.shared.base.games

hits_count : (s : State) (board : Packed) → HasFilters s → length (game_hits s board) ≡ length s.seat.filter
hits_count s board has = length-map s.shared.base.games (hit_of_game (exactly_on board)) ∙ sym has.fit.filter

entries_count : (s : State) (board : Packed) → HasFilters s → length (entries_of s board) ≡ length s.shared.base.games
entries_count s board has = under_count s.seat.filter (game_hits s board) (hits_count s board has) ∙ length-map s.shared.base.games (hit_of_game (exactly_on board))

-- Those that are in are those of the tree.
entries_show : (s : State) (board : Packed) → HasFilters s → hits_in (entries_of s board) ≡ shown_hits s board
entries_show s board has = new_hits s (exactly_on board) board s.seat.filter (game_hits s board) refl refl refl (hits_count s board has)

changed_so : (s later : State) (board : Packed) (most : ℕ) → HasFilters s → HasFilters later
    → rows_changed (rows_of (hits_in (entries_of s board))) (rows_of (hits_in (entries_of later board))) ≤ most → changes_of s later (shows board) ≤ most
changed_so s later board most has has' few =
    subst (λ (n : ℕ). n ≤ most) (ap₂ (λ (a b : List GameHit). rows_changed (rows_of a) (rows_of b)) (entries_show s board has) (entries_show later board has')) few

pub few_grown : (s later : State) (board : Packed) → HasFilters s → HasFilters later → length s.shared.base.games ≤ length later.shared.base.games
    → changes_of s later (shows board) ≤ all_changes (entries_of s board) (entries_of later board)
few_grown s later board has has' more =
    let longer : length (entries_of s board) ≤ length (entries_of later board) = omega (arith, entries_count s board has, entries_count later board has', more) in
    changed_so s later board (all_changes (entries_of s board) (entries_of later board)) has has' (rows-few (entries_of s board) (entries_of later board) longer)

pub few_renumbered : (s later : State) (board : Packed) (to : List (Option ℕ)) → HasFilters s → HasFilters later → length s.shared.base.games ≤ length to
    → entries_of later board ≡ renumbered to (entries_of s board) → changes_of s later (shows board) ≤ all_changes (entries_of s board) (staying to (entries_of s board))
few_renumbered s later board to has has' more is =
    let most : ℕ = all_changes (entries_of s board) (staying to (entries_of s board)) in
    let enough : length (entries_of s board) ≤ length to = omega (arith, entries_count s board has, more) in
    changed_so s later board most has has'
    (subst (λ (l : List Entry). rows_changed (rows_of (hits_in (entries_of s board))) (rows_of (hits_in l)) ≤ most) (sym is) (rows-few-staying (entries_of s board) to enough))
