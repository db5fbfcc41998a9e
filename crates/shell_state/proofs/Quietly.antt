-- Laws of lines that ask no file: what they leave stands for the state after them.
use Rattle.std.proofs.Common.{ℕ, List, Option, ◌≡◌, length, refl, sym, subst, ap, ap₂, ◌∙◌, All, Result, Ok, Err}
use Rattle.std.specs.Prelude.{IfErr, IfOk}
use Rattle.base_core.specs.Represents.{Kept, IsSound, Represents}
use Rattle.base_files.specs.Seen.{Seen}
use Rattle.block_store.specs.Placing.{IsEnd}
use Rattle.filter_seat.specs.Seats.{Seat}
use Rattle.filter_seat.specs.declared.saved.SavedFilter.{SavedFilter}
use Rattle.pos_index.specs.Hits.{Index}
use Rattle.shell_state.specs.Carrying.{AreBeside}
use Rattle.shell_state.specs.Slots.{tables_in}
use Rattle.shell_state.specs.Stands.{Holding, Sound, Stands, Fits, Quiet, Tables, TablesFit, AreTables}
use Rattle.shell_state.specs.State.{State, with_seat}
use Rattle.shell_state.specs.Work.{Work}
use Rattle.tree_live.specs.Watching.{Watched}

-- The end of the base stays that of the games file where neither moves.
pub end_stays : {end end' : ℕ} {seen seen' : Seen} → end' ≡ end → seen' ≡ seen → IsEnd end seen → IsEnd end' seen'
end_stays same unchanged at_end = rw (same, unchanged) at_end

-- What is held, by its parts.
abbrev pub held_by : Kept → Tables → List (Option ℕ) → List SavedFilter → Holding
held_by kept tables filter saved = record { kept = kept; tables = tables; seat = record { filter = filter; saved = saved } }

-- The tables, by the index and the slots of a machine.
abbrev pub tables_with : Option Index → List (Option Watched) → Tables
tables_with index watches = record { index = index; hits = tables_in watches }

-- Seats with the same filters are one.
pub seats_are : (old new : Seat) → old.filter ≡ new.filter → old.saved ≡ new.saved → old ≡ new
seats_are old new filter saved = ap₂ (λ (f : List (Option ℕ)) (l : List SavedFilter). record { filter = f; saved = l }) filter saved

-- The filter of a machine is that of the state for which it stands, and so are the filters that it keeps.
pub filter_is : {holding : Holding} {seen : Seen} {s : State} → Stands holding seen s → holding.seat.filter ≡ s.seat.filter
filter_is st = ap (λ (x : Seat). x.filter) st.seat

pub saved_is : {holding : Holding} {seen : Seen} {s : State} → Stands holding seen s → holding.seat.saved ≡ s.seat.saved
saved_is st = ap (λ (x : Seat). x.saved) st.seat

-- The filters fit where the current one keeps its length and the kept ones are the same.
pub fits_by : (old new : Holding) → new.kept ≡ old.kept → new.seat.saved ≡ old.seat.saved → length new.seat.filter ≡ length old.seat.filter → Fits old → Fits new
fits_by old new kept saved len fits =
    let e : length old.kept.entries ≡ length new.kept.entries = ap (λ (k : Kept). length k.entries) (sym kept) in
    record {
      filter = len ∙ fits.filter ∙ e;
      saved =
          let P : List SavedFilter → Type 0 = λ xs. All (λ (f : SavedFilter). length f.plies ≡ length new.kept.entries) xs in
          let Q : ℕ → Type 0 = λ n. All (λ (f : SavedFilter). length f.plies ≡ n) old.seat.saved in
          subst P (sym saved) (subst Q e fits.saved);
    }

pub found_sound : (kept : Kept) (tables : Tables) (filter later : List (Option ℕ)) (saved : List SavedFilter) (seen seen' : Seen)
    → Sound (held_by kept tables filter saved) seen → length later ≡ length filter → seen' ≡ seen → Sound (held_by kept tables later saved) seen'
found_sound kept tables filter later saved seen seen' sound same unchanged = record {
  fits = fits_by (held_by kept tables filter saved) (held_by kept tables later saved) refl refl same sound.fits;
  tables = sound.tables;
  base = sound.base;
  at_end = end_stays refl unchanged sound.at_end;
}

-- The tables fit where they and the base are as before.
pub tables_fit : (old new : Holding) → new.kept ≡ old.kept → new.tables ≡ old.tables → TablesFit old → TablesFit new
tables_fit old new kept tables fits =
    let P : Tables → Kept → Type 0 = λ t k. AreTables t (length k.entries) in
    subst (λ (t : Tables). P t new.kept) (sym tables) (subst (P old.tables) (sym kept) fits)

-- The plies of a filter, and the filters that are kept.
abbrev pub Plies : Type 0
Plies = List (Option ℕ)

-- A line whose filter, kept filters and text are these functions of the filter and the kept filters before.
pub quiet_by : (F : Plies → List SavedFilter → Plies) (G : Plies → List SavedFilter → List SavedFilter) (T : Plies → List SavedFilter → List ℕ)
    (old new : Holding) (work : Work) (line : List ℕ)
    → ((s : State) → work.after s ≡ with_seat s (record { filter = F s.seat.filter s.seat.saved; saved = G s.seat.filter s.seat.saved }))
    → ((s : State) → work.text s ≡ T s.seat.filter s.seat.saved)
    → new.kept ≡ old.kept → new.tables ≡ old.tables → new.seat.filter ≡ F old.seat.filter old.seat.saved → new.seat.saved ≡ G old.seat.filter old.seat.saved
    → line ≡ T old.seat.filter old.seat.saved → Fits new → Quiet old work new line
quiet_by F G T old new work line after says kept tables filter saved written fits = record {
  stands = λ (seen : Seen) (s : State) (st : Stands old seen s).
      let here : State = with_seat s (record { filter = F s.seat.filter s.seat.saved; saved = G s.seat.filter s.seat.saved }) in
      let b = subst (λ (k : Kept). Represents k st.games s.shared.base) (sym kept) st.base in
      let standing : Stands new seen here = record {
        games = st.games;
        told = st.told;
        base = b;
        seat = seats_are new.seat here.seat
            (filter ∙ ap (λ (x : Plies). F x old.seat.saved) (filter_is st) ∙ ap (F s.seat.filter) (saved_is st))
            (saved ∙ ap (λ (x : Plies). G x old.seat.saved) (filter_is st) ∙ ap (G s.seat.filter) (saved_is st));
        unsaved = ap (λ (k : Kept). k.unsaved) kept ∙ st.unsaved;
        carried = subst (λ (k : Kept). AreBeside k seen s.shared.unsaved s.shared.carried) (sym kept) st.carried;
        tables = tables ∙ st.tables;
        fresh = st.fresh;
      } in
      subst (Stands new seen) (sym (after s)) standing;
  text = λ (seen : Seen) (s : State) (st : Stands old seen s).
      written ∙ ap (λ (x : Plies). T x old.seat.saved) (filter_is st) ∙ ap (T s.seat.filter) (saved_is st) ∙ sym (says s);
  fits = fits;
  tables = tables_fit old new kept tables;
  base = λ (sound : IsSound old.kept). subst (λ (k : Kept). IsSound k) (sym kept) sound;
  end = ap (λ (k : Kept). k.end) kept;
}

-- A line that changes nothing and has the same text in each state.
pub quiet_same : (text : List ℕ) (old : Holding) (work : Work) (line : List ℕ)
    → ((s : State) → work.after s ≡ s) → ((s : State) → work.text s ≡ text) → line ≡ text → Fits old → Quiet old work old line
quiet_same text old work line after says written fits =
    quiet_by (λ f s. f) (λ f s. s) (λ f s. text) old old work line after says refl refl refl refl written fits

-- The filters fit where the kept ones all fit.
pub fits_saved : (old new : Holding) → new.kept ≡ old.kept → new.seat.filter ≡ old.seat.filter
    → All (λ (f : SavedFilter). length f.plies ≡ length old.kept.entries) new.seat.saved → Fits old → Fits new
fits_saved old new kept filter saved fits =
    let e : length old.kept.entries ≡ length new.kept.entries = ap (λ (k : Kept). length k.entries) (sym kept) in
    let Q : ℕ → Type 0 = λ n. All (λ (f : SavedFilter). length f.plies ≡ n) new.seat.saved in
    record { filter = ap (λ (x : Plies). length x) filter ∙ fits.filter ∙ e; saved = subst Q e saved }

-- A fact that follows for what a call answered.
pub if_ok : {A E : Type 0} (P Q : A → Type 0) (r : Result A E) → ((x : A) → P x → Q x) → IfOk r P → IfOk r Q
if_ok P Q (Ok x) f p = f x p
if_ok P Q (Err e) f p = tt

-- How a call ended, where it follows from what it says of its error.
pub if_err_so : {A E : Type 0} (P Q : E → Type 0) (r : Result A E) → ((e : E) → P e → Q e) → IfErr r P → IfErr r Q
if_err_so P Q (Ok x) f p = tt
if_err_so P Q (Err e) f p = f e p
