-- Laws of the searches that leave their games in the filter of a machine.
use Rattle.std.proofs.Common.{◌≡◌, ℕ, List, Option, sym, ap, subst, ◌∙◌, Ok, OnOk, Result, Err}
use Rattle.base_core.specs.Represents.{Kept}
use Rattle.base_files.specs.Seen.{Seen}
use Rattle.game_filter.specs.Search.{searched}
use Rattle.game_filter.specs.declared.op.Op.{Op}
use Rattle.filter_seat.specs.declared.saved.SavedFilter.{SavedFilter}
use Rattle.shell_state.proofs.Quietly.{filter_is, held_by, saved_is, seats_are}
use Rattle.shell_state.specs.Carrying.{AreBeside}
use Rattle.shell_state.specs.Stands.{Stands, Tables}
use Rattle.shell_state.specs.State.{State, with_filter}

-- The search was done: the machine stands for the state with the filter that it left.
searched_stands : (kept : Kept) (tables : Tables) (filter later : List (Option ℕ)) (saved : List SavedFilter) (seen seen' : Seen) (s : State) (op : Op) (firsts : List (Option ℕ))
    → Stands (held_by kept tables filter saved) seen s → seen' ≡ seen → later ≡ searched op firsts filter
    → Stands (held_by kept tables later saved) seen' (with_filter s (searched op firsts s.seat.filter))
searched_stands kept tables filter later saved seen seen' s op firsts st same found = record {
  games = st.games;
  told = ap (λ (t : Seen). t.games) same ∙ st.told;
  base = st.base;
  seat = seats_are (record { filter = later; saved = saved }) (record s.seat { filter = searched op firsts s.seat.filter })
      (found ∙ ap (λ (plies : List (Option ℕ)). searched op firsts plies) (filter_is st)) (saved_is st);
  unsaved = st.unsaved;
  tables = st.tables;
  carried = subst (λ (x : Seen). AreBeside kept x s.shared.unsaved s.shared.carried) (sym same) st.carried;
  fresh = ap (λ (t : Seen). t.fresh) same ∙ st.fresh;
}

-- The same where it may be broken off.
pub search_stands : {A E : Type 0} (r : Result A E) (kept : Kept) (tables : Tables) (filter later : List (Option ℕ)) (saved : List SavedFilter) (seen seen' : Seen) (s : State) (op : Op) (firsts : List (Option ℕ))
    → Stands (held_by kept tables filter saved) seen s → seen' ≡ seen → OnOk r (later ≡ searched op firsts filter)
    → OnOk r (Stands (held_by kept tables later saved) seen' (with_filter s (searched op firsts s.seat.filter)))
search_stands (Ok x) kept tables filter later saved seen seen' s op firsts st same found = searched_stands kept tables filter later saved seen seen' s op firsts st same found
search_stands (Err e) kept tables filter later saved seen seen' s op firsts st same found = tt
