-- The law that ties the two desks.
use Rattle.std.proofs.Common.{◌≡◌, ◌<◌, ℕ, List, Option, length, get_or, sym, ap, ap₂, ◌∙◌}
use Rattle.base_core.specs.Base.{Base}
use Rattle.client_desk.specs.Changes.{moving_of}
use Rattle.client_desk.specs.Desks.{Echoed}
use Rattle.client_desk.specs.Seats.{Seated}
use Rattle.client_desk.specs.declared.change.Change.{Change}
use Rattle.filter_seat.specs.Following.{Moving, seat_after}
use Rattle.filter_seat.specs.declared.saved.SavedFilter.{SavedFilter}
use Rattle.script_text.specs.Tasks.{Order}
use Rattle.desk_commands.specs.Desk.{brought, moved_by}
use Rattle.desk_runs.specs.Desks.{plain_seat}

-- What became of each seat of the others is what the line brings to it.
pub agree : (by : ℕ) (change : Change) (old new : List Seated) → Echoed by change old new → (client : ℕ) (d : Seated) → (client ≡ by → ⊥) → client < length old
    → (order : Order) (before after : Base) → moved_by order before after ≡ moving_of change (length (get_or old client d).filter)
    → plain_seat (get_or new client d) ≡ brought order before after (plain_seat (get_or old client d))
agree by change old new echoed client d other there order before after same =
    let follows = echoed.others client d other there in
    ap₂ (λ (plies : List (Option ℕ)) (saved : List SavedFilter). record { filter = plies; saved = saved }) follows.filter follows.saved
    ∙ ap (λ (m : Moving). seat_after m (plain_seat (get_or old client d))) (sym same)
