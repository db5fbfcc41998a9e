-- Laws of `save`.
use Rattle.std.proofs.Common.{true, false, ℕ, List, Option, ◌≡◌, Bool, [], Some, None, IfSome, subst, refl, ap, ◌∙◌, inl, inr}
use Rattle.base_core.specs.Base.{Base}
use Rattle.base_core.specs.Means.{Carries, HoldsNames}
use Rattle.base_core.specs.Opening.{IfTold}
use Rattle.base_core.specs.Represents.{Kept, Represents, IsSound}
use Rattle.base_core.specs.Saved.{IsSaved, MeansIt, OpensAgain, IsLeft, StillCarries}
use Rattle.base_files.specs.Seen.{Seen, replaced, told_instead}
use Rattle.block_store.specs.Placing.{IsEnd}
use Rattle.edit_commands.specs.Saving.{save_after}
use Rattle.filter_seat.specs.declared.saved.SavedFilter.{SavedFilter}
use Rattle.shell_state.proofs.CarryLaws.{beside_meant}
use Rattle.shell_state.proofs.Quietly.{held_by}
use Rattle.shell_state.proofs.CarryLaws.{MayCarry}
use Rattle.shell_state.specs.Carrying.{AreBeside, Contents, Beside, CarryIt, StillCarry}
use Rattle.shell_state.specs.Stands.{Sound, Stands, Holding, Tables}
use Rattle.shell_state.specs.State.{Carried, State}

-- What is kept, with nothing unsaved.
abbrev pub clean : Kept → Kept
clean kept = record kept { unsaved = false }

clean_represents : (kept : Kept) (games : List ℕ) (base : Base) → Represents kept games base → Represents (clean kept) games base
clean_represents kept games base is = record { header = is.header; names = is.names; end = is.end; count = is.count; each = is.each }

clean_sound : (kept : Kept) → IsSound kept → IsSound (clean kept)
clean_sound kept is = record { header = is.header; count = is.count; names = is.names; entries = is.entries }

pub saved_sound : (kept : Kept) (tables : Tables) (filter : List (Option ℕ)) (saved : List SavedFilter) (seen seen' : Seen) → Sound (held_by kept tables filter saved) seen → IsEnd kept.end seen' → Sound (held_by (clean kept) tables filter saved) seen'
saved_sound kept tables filter saved seen seen' is at =
    record { fits = record { filter = is.fits.filter; saved = is.fits.saved }; tables = is.tables; base = clean_sound kept is.base; at_end = at }

-- The contents that are told beside a state.
pub contents_of : (kept : Kept) (seen : Seen) (unsaved : Bool) (carried : Option Carried) (games : List ℕ) → AreBeside kept seen unsaved carried → seen.games ≡ Some games → Contents seen
contents_of kept seen unsaved (Some base) games b told = b.contents
contents_of kept seen unsaved None games b told = record { index = []; names = []; games = games; index_told = b.0; names_told = b.1; games_told = told }

-- What is known where the three contents are told.
pub known_told : (seen : Seen) (F : List ℕ → List ℕ → List ℕ → Type 0) → (c : Contents seen) → IfTold seen F → F c.index c.names c.games
known_told seen F c known =
    let I : Option (List ℕ) → Type 0 = λ o. IfSome o (λ index. IfSome seen.names (λ names. IfSome seen.games (λ games. F index names games))) in
    let N : Option (List ℕ) → Type 0 = λ o. IfSome o (λ names. IfSome seen.games (λ games. F c.index names games)) in
    let G : Option (List ℕ) → Type 0 = λ o. IfSome o (λ games. F c.index c.names games) in
    subst G c.games_told (subst N c.names_told (subst I c.index_told known))

pub save_stands : (kept : Kept) (tables : Tables) (filter : List (Option ℕ)) (saved : List SavedFilter) (seen seen' : Seen) (s : State) → Stands (held_by kept tables filter saved) seen s → IsSaved kept seen seen' → MeansIt (clean kept) seen'
    → Stands (held_by (clean kept) tables filter saved) seen' (save_after s)
save_stands kept tables filter saved seen seen' s st is means =
    let before : Contents seen = contents_of kept seen s.shared.unsaved s.shared.carried st.games st.carried st.told in
    let told : seen'.games ≡ Some st.games = ap (λ (x : Seen). x.games) is.replaced ∙ st.told in
    let there : Represents (clean kept) st.games s.shared.base = clean_represents kept st.games s.shared.base st.base in
    let now : Contents seen' = record {
      index = is.index;
      names = is.names;
      games = st.games;
      index_told = ap (λ (x : Seen). x.index) is.replaced ∙ ap (told_instead is.index) before.index_told;
      names_told = ap (λ (x : Seen). x.names) is.replaced ∙ ap (told_instead is.names) before.names_told;
      games_told = told;
    } in
    let again : OpensAgain now.index now.names now.games s.shared.base =
    (known_told seen' (λ index names games. (base : Base) → Represents (clean kept) games base → OpensAgain index names games base) now means) s.shared.base there in
    record {
      games = st.games;
      told = told;
      base = there;
      seat = st.seat;
      unsaved = refl;
      carried = beside_meant (clean kept) seen' s.shared.base true now there.names again.means (λ sound. again.whole);
      tables = st.tables;
      fresh = ap (λ (x : Seen). x.fresh) is.replaced ∙ st.fresh;
    }

-- ---- where it is broken off

-- The names file alone was replaced, or nothing.
left_contents : (kept : Kept) (seen seen' : Seen) → (c : Contents seen) → IsLeft kept seen seen' → Contents seen'
left_contents kept seen seen' c (inl same) = record {
  index = c.index;
  names = c.names;
  games = c.games;
  index_told = ap (λ (s : Seen). s.index) same ∙ c.index_told;
  names_told = ap (λ (s : Seen). s.names) same ∙ c.names_told;
  games_told = ap (λ (s : Seen). s.games) same ∙ c.games_told;
}
left_contents kept seen seen' c (inr left) = record {
  index = c.index;
  names = left.0;
  games = c.games;
  index_told = ap (λ (s : Seen). s.index) left.1.1 ∙ c.index_told;
  names_told = ap (λ (s : Seen). s.names) left.1.1 ∙ ap (told_instead left.0) c.names_told;
  games_told = ap (λ (s : Seen). s.games) left.1.1 ∙ c.games_told;
}

left_carries : (kept : Kept) (seen seen' : Seen) (unsaved : Bool) (own : Carried) → Beside kept seen unsaved own → IsLeft kept seen seen' → StillCarries kept seen seen' → CarryIt seen' own.base
left_carries kept seen seen' unsaved own b left still =
    let now : Contents seen' = left_contents kept seen seen' b.contents left in
    let Then : List ℕ → List ℕ → List ℕ → List ℕ → List ℕ → List ℕ → Type 0 = λ index names games i n g. (own : Base) (carried : Carries index names games own) → HoldsNames kept.names carried.all_names → Carries i n g own in
    let first = known_told seen (λ index names games. IfTold seen' (λ i n g. Then index names games i n g)) b.contents still in
    let second = known_told seen' (λ i n g. Then b.contents.index b.contents.names b.contents.games i n g) now first in
    (now, second own.base b.carries b.names)

left_may : (kept : Kept) (seen seen' : Seen) (unsaved : Bool) (carried : Option Carried) (base : Base) → AreBeside kept seen unsaved carried → IsLeft kept seen seen' → StillCarries kept seen seen'
    → MayCarry seen' carried (Some (λ base. base)) base
left_may kept seen seen' unsaved (Some own) base b left still = inl (left_carries kept seen seen' unsaved own b left still)
left_may kept seen seen' unsaved None base b left still = tt

pub unsaved_carry : (kept : Kept) (tables : Tables) (filter : List (Option ℕ)) (saved : List SavedFilter) (seen seen' : Seen) (s : State) → Stands (held_by kept tables filter saved) seen s → IsLeft kept seen seen' → StillCarries kept seen seen'
    → StillCarry seen' s (Some (λ base. base))
unsaved_carry kept tables filter saved seen seen' s st left still = left_may kept seen seen' s.shared.unsaved s.shared.carried s.shared.base st.carried left still

-- It was done, and its text was not written.
saved_may : (kept : Kept) (seen : Seen) (carried : Option Carried) (base : Base) → Beside kept seen false (record { base = base; sound = true }) → MayCarry seen carried (Some (λ base. base)) base
saved_may kept seen (Some own) base b = inr (b.contents, b.carries)
saved_may kept seen None base b = tt

pub saved_carry : (holding : Holding) (seen : Seen) (s : State) → Stands holding seen (save_after s) → StillCarry seen s (Some (λ base. base))
saved_carry holding seen s st = saved_may holding.kept seen s.shared.carried s.shared.base st.carried
