-- Laws of the commands that mark games.
use Rattle.std.proofs.Common.{◌≡◌, ◌<◌, ℕ, List, length, Option, Some, sym, ap, ◌∙◌, subst, arith, ◌≤◌, None, refl, Bool, true, false}
use Rattle.std.proofs.lemmas.Option.{slice_get_past}
use Rattle.std.specs.Prelude.{if◌then◌else◌, is_some, slice_get}
use Rattle.base_core.proofs.Lists.{get_some}
use Rattle.base_core.specs.Base.{Base, Held}
use Rattle.base_core.specs.Edited.{ChangedHeads, Does}
use Rattle.base_core.specs.Represents.{IsSound, Kept}
use Rattle.base_core.specs.Edits.{deleted, marked, undeleted, with_mark}
use Rattle.base_files.specs.Seen.{Seen}
use Rattle.sig_index.specs.declared.pos_query.PosQuery.{PosQuery}
use Rattle.filter_seat.specs.declared.saved.SavedFilter.{SavedFilter}
use Rattle.shell_state.proofs.IndexLaws.{index_stays}
use Rattle.shell_state.proofs.CarryLaws.{beside_edited}
use Rattle.shell_state.proofs.EditedLaws.{fits_count, same_count, tables_fit_count}
use Rattle.shell_state.proofs.Quietly.{held_by}
use Rattle.shell_state.proofs.TableLaws.{hits_changed_at, hits_on, tables_are}
use Rattle.shell_state.specs.Lines.{game_line, no_game_line}
use Rattle.shell_state.specs.Stands.{Fits, Quiet, Stands, Holding, Tables}
use Rattle.shell_state.specs.State.{State, with_base}
use Rattle.shell_state.specs.Work.{Work}

-- An edit of a game, where it is there, and its line.
abbrev pub edited_there : (Base → Base) → State → Option Held → State
edited_there edit s held = if is_some held then with_base s (edit s.shared.base) else s

abbrev pub line_there : List ℕ → ℕ → Option Held → List ℕ
line_there words game held = if is_some held then game_line words game else no_game_line game

-- A mark of a game is nothing that trees count.
pub hits_deleted : (i : ℕ) (base : Base) (query : PosQuery) → hits_on query (deleted i base).games ≡ hits_on query base.games
unfolding deleted
hits_deleted i base query = hits_changed_at query (λ (held : Held). record held { head = record held.head { deleted = true } }) i base.games (λ held. refl)

pub hits_undeleted : (i : ℕ) (base : Base) (query : PosQuery) → hits_on query (undeleted i base).games ≡ hits_on query base.games
unfolding undeleted
hits_undeleted i base query = hits_changed_at query (λ (held : Held). record held { head = record held.head { deleted = false } }) i base.games (λ held. refl)

pub hits_marked : (i bit : ℕ) (on : Bool) (base : Base) (query : PosQuery) → hits_on query (marked i bit on base).games ≡ hits_on query base.games
unfolding marked
hits_marked i bit on base query =
    hits_changed_at query (λ (held : Held). record held { head = record held.head { marks = with_mark held.head.marks bit on } }) i base.games (λ held. refl)

-- An edit of a game that is there.
pub quiet_edit : (words : List ℕ) (edit : Base → Base) (game : ℕ) (old new : Kept) (tables : Tables) (filter : List (Option ℕ)) (saved : List SavedFilter) (work : Work) (line : List ℕ)
    → ((s : State) → work.after s ≡ edited_there edit s (slice_get s.shared.base.games game))
    → ((s : State) → work.text s ≡ line_there words game (slice_get s.shared.base.games game))
    → game < length old.entries → Does edit old new → ChangedHeads old new → ((base : Base) (query : PosQuery) → hits_on query (edit base).games ≡ hits_on query base.games) → IsSound new → line ≡ game_line words game → Fits (held_by old tables filter saved)
    → Quiet (held_by old tables filter saved) work (held_by new tables filter saved) line
quiet_edit words edit game old new tables filter saved work line after says there does heads hits sound written fits = record {
  stands = λ (seen : Seen) (s : State) (st : Stands (held_by old tables filter saved) seen s).
      let held = get_some s.shared.base.games game (omega (arith, there, st.base.count)) in
      let standing : Stands (held_by new tables filter saved) seen (edited_there edit s (Some held.0)) = record {
        games = st.games;
        told = st.told;
        base = does st.games s.shared.base st.base;
        seat = st.seat;
        unsaved = heads.unsaved;
        carried = beside_edited old new seen s.shared.unsaved s.shared.carried heads.names st.carried;
        tables = tables_are tables s.shared.index s.slots s.shared.base.games (edit s.shared.base).games st.tables
            (index_stays old new st.games s.shared.base (edit s.shared.base) _ s.shared.index st.base (does st.games s.shared.base st.base) heads.extents refl)
            (hits s.shared.base);
        fresh = st.fresh;
      } in
      subst (Stands (held_by new tables filter saved) seen) (ap (edited_there edit s) (sym held.1) ∙ sym (after s)) standing;
  text = λ (seen : Seen) (s : State) (st : Stands (held_by old tables filter saved) seen s).
      let held = get_some s.shared.base.games game (omega (arith, there, st.base.count)) in
      written ∙ ap (line_there words game) (sym held.1) ∙ sym (says s);
  fits = fits_count old new tables filter saved (same_count old new heads) fits;
  tables = tables_fit_count old new tables filter saved (same_count old new heads);
  base = λ before. sound;
  end = heads.end;
}

-- And of one that is not.
pub quiet_no_edit : (words : List ℕ) (edit : Base → Base) (game : ℕ) (old : Holding) (work : Work) (line : List ℕ)
    → ((s : State) → work.after s ≡ edited_there edit s (slice_get s.shared.base.games game))
    → ((s : State) → work.text s ≡ line_there words game (slice_get s.shared.base.games game))
    → length old.kept.entries ≤ game → line ≡ no_game_line game → Fits old
    → Quiet old work old line
quiet_no_edit words edit game old work line after says past written fits = record {
  stands = λ (seen : Seen) (s : State) (st : Stands old seen s).
      let none : slice_get s.shared.base.games game ≡ None = slice_get_past s.shared.base.games game (omega (arith, past, st.base.count)) in
      subst (Stands old seen) (ap (edited_there edit s) (sym none) ∙ sym (after s)) st;
  text = λ (seen : Seen) (s : State) (st : Stands old seen s).
      let none : slice_get s.shared.base.games game ≡ None = slice_get_past s.shared.base.games game (omega (arith, past, st.base.count)) in
      written ∙ ap (line_there words game) (sym none) ∙ sym (says s);
  fits = fits;
  tables = λ fits. fits;
  base = λ sound. sound;
  end = refl;
}
