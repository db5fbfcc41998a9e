-- Laws of the commands on filters: lengths stay, and numbers may be cut to that of the games.
use Rattle.std.proofs.Common.{◌≡◌, ℕ, suc, ◌+◌, [], ◌∷◌, length, refl, ap, Option, ◌<◌, arith, ◌≤◌, List, All, sym, subst, true}
use Rattle.std.proofs.lemmas.Bool.Decides.{nat_tests}
use Rattle.std.specs.Prelude.{nat_le, min, codes}
use Rattle.base_core.specs.Represents.{Kept}
use Rattle.game_filter.specs.Filter.{restricted, entry_within}
use Rattle.game_filter.proofs.Passes.{restricted_from}
use Rattle.filter_commands.specs.Filters.{drop_line, drop_work, keep_line, keep_work}
use Rattle.filter_seat.specs.SavedFilters.{can_keep, dropped_in, kept_in}
use Rattle.filter_seat.specs.declared.saved.SavedFilter.{SavedFilter}
use Rattle.shell_state.proofs.Quietly.{Plies, fits_saved, held_by, quiet_by}
use Rattle.shell_state.specs.Lines.{name_line}
use Rattle.shell_state.specs.Stands.{Holding, Fits, Quiet, Tables}

pub length_restricted_from : (i first last : ℕ) (plies : Plies) → length (restricted_from i first last plies) ≡ length plies
length_restricted_from i first last [] = refl
length_restricted_from i first last (ply ∷ plies) = ap (λ (n : ℕ). suc n) (length_restricted_from (i + 1) first last plies)

pub length_restricted : (first last : ℕ) (plies : Plies) → length (restricted first last plies) ≡ length plies
length_restricted first last plies = length_restricted_from 0 first last plies

-- The numbers of `restrict` may be cut to the number of games.
within_cut : (m i first last : ℕ) (ply : Option ℕ) → i < m → entry_within (min first m) (min last m) i ply ≡ entry_within first last i ply
within_cut m i first last ply less =
    let low : nat_le (min first m) i ≡ nat_le first i = grind (arith, nat_tests) in
    let high : nat_le i (min last m) ≡ nat_le i last = grind (arith, nat_tests) in
    rw (low, high) refl

cut_from : (m i first last : ℕ) (plies : Plies) → i + length plies ≤ m → restricted_from i (min first m) (min last m) plies ≡ restricted_from i first last plies
cut_from m i first last [] within = refl
cut_from m i first last (ply ∷ plies) within =
    let here : entry_within (min first m) (min last m) i ply ≡ entry_within first last i ply = within_cut m i first last ply (omega arith) in
    let later : restricted_from (i + 1) (min first m) (min last m) plies ≡ restricted_from (i + 1) first last plies = cut_from m (i + 1) first last plies (omega arith) in
    cc

pub restricted_cut : (m first last : ℕ) (plies : Plies) → m ≡ length plies → restricted (min first m) (min last m) plies ≡ restricted first last plies
restricted_cut m first last plies games = cut_from m 0 first last plies (omega arith)

-- `keep`, where there is room.
keep_in : (kept : Kept) (tables : Tables) (filter : Plies) (saved later : List SavedFilter) (name line : List ℕ) → later ≡ kept_in saved name filter → line ≡ keep_line saved name
    → (All (λ (f : SavedFilter). length f.plies ≡ length filter) saved → All (λ (f : SavedFilter). length f.plies ≡ length filter) later)
    → Fits (held_by kept tables filter saved)
    → Quiet (held_by kept tables filter saved) (keep_work name) (held_by kept tables filter later) line
keep_in kept tables filter saved later name line is written all fits =
    let old : Holding = held_by kept tables filter saved in
    let new : Holding = held_by kept tables filter later in
    let P : List SavedFilter → ℕ → Type 0 = λ l n. All (λ (f : SavedFilter). length f.plies ≡ n) l in
    quiet_by (λ f s. f) (λ f s. kept_in s name f) (λ f s. keep_line s name) old new (keep_work name) line (λ s. refl) (λ s. refl) refl refl refl is written
    (fits_saved old new refl refl (subst (P later) fits.filter (all (subst (P saved) (sym fits.filter) fits.saved))) fits)

pub keep_quiet : (old : Holding) (kept : Kept) (tables : Tables) (filter : Plies) (saved later : List SavedFilter) (name line : List ℕ)
    → old ≡ held_by kept tables filter saved → later ≡ kept_in saved name filter → can_keep saved name ≡ true → line ≡ name_line (codes "kept ") name
    → (All (λ (f : SavedFilter). length f.plies ≡ length filter) saved → All (λ (f : SavedFilter). length f.plies ≡ length filter) later)
    → Fits old → Quiet old (keep_work name) (held_by kept tables filter later) line
keep_quiet old kept tables filter saved later name line view is room written all fits =
    let new : Holding = held_by kept tables filter later in
    let P : Holding → Type 0 = λ o. Quiet o (keep_work name) new line in
    let text : line ≡ keep_line saved name = rw room written in
    subst P (sym view) (keep_in kept tables filter saved later name line is text all (subst Fits view fits))

-- `drop`, whether a filter of the name was kept or not.
drop_in : (kept : Kept) (tables : Tables) (filter : Plies) (saved later : List SavedFilter) (name line : List ℕ) → later ≡ dropped_in saved name → line ≡ drop_line saved name
    → ((games : ℕ) → All (λ (f : SavedFilter). length f.plies ≡ games) saved → All (λ (f : SavedFilter). length f.plies ≡ games) later)
    → Fits (held_by kept tables filter saved)
    → Quiet (held_by kept tables filter saved) (drop_work name) (held_by kept tables filter later) line
drop_in kept tables filter saved later name line dropped written all fits =
    let old : Holding = held_by kept tables filter saved in
    let new : Holding = held_by kept tables filter later in
    quiet_by (λ f s. f) (λ f s. dropped_in s name) (λ f s. drop_line s name) old new (drop_work name) line (λ s. refl) (λ s. refl) refl refl refl dropped written
    (fits_saved old new refl refl (all (length kept.entries) fits.saved) fits)

pub drop_quiet : (old : Holding) (kept : Kept) (tables : Tables) (filter : Plies) (saved later : List SavedFilter) (name line : List ℕ)
    → old ≡ held_by kept tables filter saved → later ≡ dropped_in saved name → line ≡ drop_line saved name
    → ((games : ℕ) → All (λ (f : SavedFilter). length f.plies ≡ games) saved → All (λ (f : SavedFilter). length f.plies ≡ games) later)
    → Fits old → Quiet old (drop_work name) (held_by kept tables filter later) line
drop_quiet old kept tables filter saved later name line view dropped written all fits =
    let new : Holding = held_by kept tables filter later in
    let P : Holding → Type 0 = λ o. Quiet o (drop_work name) new line in
    subst P (sym view) (drop_in kept tables filter saved later name line dropped written all (subst Fits view fits))
