-- Laws of edits that all rooms share: what they leave as it was, and why they are refused.
use Rattle.std.proofs.Common.{◌≡◌, ℕ, List, All, length, Option, sym, ◌∙◌, subst, ap, false, nat_lt, None, refl, ◌<◌, true, Some, Ok, arith, Result, Err}
use Rattle.std.proofs.lemmas.Bool.{le-ltb, lt-ltb}
use Rattle.std.proofs.lemmas.List.{length-map}
use Rattle.std.specs.Prelude.{IfOk, OnOk, option_map}
use Rattle.std.specs.Result.{result_map_both}
use Rattle.base_core.specs.Base.{Base}
use Rattle.base_core.specs.Edited.{ChangedHeads, first_full, CanPlace, WhyNotPlaced}
use Rattle.base_core.specs.Edits.{end_with, names_with}
use Rattle.base_core.specs.Entries.{extent_of}
use Rattle.base_core.specs.Represents.{Kept, Represents}
use Rattle.base_core.specs.declared.fault.EditError.{EditError}
use Rattle.base_core.specs.declared.fault.EditError.TheVariants as edit
use Rattle.base_core.specs.declared.fault.What.{What}
use Rattle.base_files.specs.Seen.{AppendedInPart, Seen}
use Rattle.base_files.specs.declared.extent.Extent.{Extent}
use Rattle.game_codec.specs.Written.{written_record, longest}
use Rattle.game_tree.specs.Game.{GameTree}
use Rattle.game_tree.specs.declared.head.Head.{Head}
use Rattle.name_base.specs.NameLists.{NameLists}
use Rattle.filter_seat.specs.declared.saved.SavedFilter.{SavedFilter}
use Rattle.shell_state.proofs.CarryLaws.{carry_grown, carry_same}
use Rattle.shell_state.proofs.Quietly.{held_by}
use Rattle.shell_state.specs.Carrying.{StillCarry}
use Rattle.shell_state.specs.Ends.{refused_edit, refused_line}
use Rattle.shell_state.specs.Refusing.{refusal, refusal_line, refusal_of, why_not}
use Rattle.shell_state.specs.Stands.{AreTables, Fits, Holding, Stands, Tables, TablesFit}
use Rattle.shell_state.specs.State.{State}
use Rattle.shell_state.specs.declared.halt.Halt.{Halt}
use Rattle.shell_state.specs.declared.refusing.Refusal.{Refusal}
use Rattle.shell_state.specs.declared.refusing.Refusal.TheVariants.{TooLong, Full}

-- Filters that fit go on to fit where the number of games is the same.
pub fits_count : (old new : Kept) (tables : Tables) (filter : List (Option ℕ)) (saved : List SavedFilter) → length new.entries ≡ length old.entries
    → Fits (held_by old tables filter saved) → Fits (held_by new tables filter saved)
fits_count old new tables filter saved count fits =
    record { filter = fits.filter ∙ sym count; saved = subst (λ (n : ℕ). All (λ (f : SavedFilter). length f.plies ≡ n) saved) (sym count) fits.saved }

-- And so do the tables.
pub tables_fit_count : (old new : Kept) (tables : Tables) (filter : List (Option ℕ)) (saved : List SavedFilter) → length new.entries ≡ length old.entries
    → TablesFit (held_by old tables filter saved) → TablesFit (held_by new tables filter saved)
tables_fit_count old new tables filter saved count fits = subst (AreTables tables) (sym count) fits

-- As many entries as places.
pub same_count : (old new : Kept) → ChangedHeads old new → length new.entries ≡ length old.entries
same_count old new is = sym (length-map new.entries extent_of) ∙ ap (λ (x : List Extent). length x) is.extents ∙ length-map old.entries extent_of

-- What is against a game, by what is kept.
abbrev pub kept_why : Kept → ℕ → Head → GameTree → Option Refusal
kept_why kept n head game = refusal (length (written_record head.tags game)) (first_full n (names_with head kept.names) (end_with head game kept.end))

pub kept-why : (kept : Kept) (games : List ℕ) (base : Base) (n m : ℕ) (head : Head) (game : GameTree) → Represents kept games base → n ≡ m → kept_why kept n head game ≡ why_not base m head game
kept-why kept games base n m head game is same =
    let len : ℕ = length (written_record head.tags game) in
    ap (λ (k : ℕ). kept_why kept k head game) same
    ∙ ap (λ (names : NameLists). refusal len (first_full m (names_with head names) (end_with head game kept.end))) is.names
    ∙ ap (λ (end : ℕ). refusal len (first_full m (names_with head base.names) (end_with head game end))) is.end

-- Nothing is refused where there is room.
pub none_refused : (len : ℕ) (full : Option What) → CanPlace len full → refusal len full ≡ None
none_refused len full can =
    let short : nat_lt longest len ≡ false = le-ltb longest len can.short in
    rw (short, can.room) refl

-- What is refused, by the error.
pub refused_so : (e : EditError) (len : ℕ) (full : Option What) (why : Refusal) → WhyNotPlaced len full e → refused_edit e ≡ Ok why → refusal len full ≡ Some why
refused_so (edit.TooLong n) len full why not ends =
    let longer : longest < len = omega (arith, not.0, not.1) in
    let test : nat_lt longest len ≡ true = lt-ltb longest len longer in
    let same : TooLong ≡ why = cc in
    rw test (ap (λ (r : Refusal). Some r) same)
refused_so (edit.Full what) len full why not ends =
    let short : nat_lt longest len ≡ false = le-ltb longest len not.0 in
    let same : Full what ≡ why = cc in
    rw (short, not.1) (ap (λ (r : Refusal). Some r) same)
refused_so (edit.NoGame n) len full why not ends = absurd not
refused_so (edit.Changed g sig found) len full why not ends = absurd not
refused_so edit.Failed len full why not ends = cc
refused_so edit.Memory len full why not ends = cc

line_so : (r : Result Refusal Halt) (line : List ℕ) → result_map_both refusal_line (λ (h : Halt). h) r ≡ Ok line → (why : Refusal) × (r ≡ Ok why) × (refusal_line why ≡ line)
line_so (Ok why) line is = (why, refl, cc)
line_so (Err halt) line is = absurd (cc)

-- The error line of a game that does not take the place of another one, by what is kept.
abbrev pub kept_refusal : Kept → Head → GameTree → Option (List ℕ)
kept_refusal kept head game = option_map refusal_line (kept_why kept (length kept.entries) head game)

pub kept-refusal : (kept : Kept) (games : List ℕ) (base : Base) (head : Head) (game : GameTree) → Represents kept games base → kept_refusal kept head game ≡ refusal_of base head game
kept-refusal kept games base head game is = ap (option_map refusal_line) (kept-why kept games base (length kept.entries) (length base.games) head game is is.count)

pub none_lined : (len : ℕ) (full : Option What) → CanPlace len full → option_map refusal_line (refusal len full) ≡ None
none_lined len full can = ap (option_map refusal_line) (none_refused len full can)

pub lined_so : (e : EditError) (len : ℕ) (full : Option What) (line : List ℕ) → WhyNotPlaced len full e → refused_line e ≡ Ok line → option_map refusal_line (refusal len full) ≡ Some line
lined_so e len full line not ends =
    let so = line_so (refused_edit e) line ends in
    ap (option_map refusal_line) (refused_so e len full so.0 not so.1) ∙ ap (λ (l : List ℕ). Some l) so.2

-- A game is refused after an error that changed no file.
pub why_not_failed : (e : EditError) (why : Refusal) → refused_edit e ≡ Ok why → e ≡ edit.Failed → ⊥
why_not_failed (edit.TooLong n) why ends is = cc
why_not_failed (edit.Full what) why ends is = cc
why_not_failed (edit.NoGame n) why ends is = cc
why_not_failed (edit.Changed g sig found) why ends is = cc
why_not_failed edit.Failed why ends is = cc
why_not_failed edit.Memory why ends is = cc

pub not_failed : (e : EditError) (line : List ℕ) → refused_line e ≡ Ok line → e ≡ edit.Failed → ⊥
not_failed e line ends = let so = line_so (refused_edit e) line ends in why_not_failed e so.0 so.1

pub ok_not_failed : {A : Type 0} (r : Result A EditError) (x : A) → r ≡ Ok x → r ≡ Err edit.Failed → ⊥
ok_not_failed r x ok failed = cc

pub err_not_failed : {A : Type 0} (r : Result A EditError) (e : EditError) → r ≡ Err e → (e ≡ edit.Failed → ⊥) → r ≡ Err edit.Failed → ⊥
err_not_failed r e is other failed = let same : e ≡ edit.Failed = cc in other same

pub carry_err : {A : Type 0} (e : EditError) (r : Result A EditError) (holding : Holding) (seen seen' : Seen) (s : State) (left : Option (Base → Base)) → r ≡ Err e → (r ≡ Err edit.Failed → AppendedInPart seen seen')
    → ((r ≡ Err edit.Failed → ⊥) → seen' ≡ seen) → Stands holding seen s → StillCarry seen' s left
carry_err edit.Failed r holding seen seen' s left is part none st = let p = part is in carry_grown holding seen seen' s left p.rest p.grew st
carry_err edit.Memory r holding seen seen' s left is part none st = carry_same holding seen seen' s left (none (λ failed. cc)) st
carry_err (edit.NoGame n) r holding seen seen' s left is part none st = carry_same holding seen seen' s left (none (λ failed. cc)) st
carry_err (edit.TooLong n) r holding seen seen' s left is part none st = carry_same holding seen seen' s left (none (λ failed. cc)) st
carry_err (edit.Full what) r holding seen seen' s left is part none st = carry_same holding seen seen' s left (none (λ failed. cc)) st
carry_err (edit.Changed g sig found) r holding seen seen' s left is part none st = carry_same holding seen seen' s left (none (λ failed. cc)) st

-- A fact on success, where it follows for what the call answered.
pub ok_by : {A E : Type 0} (P : A → Type 0) (X : Type 0) (r : Result A E) → ((x : A) → P x → X) → IfOk r P → OnOk r X
ok_by P X (Ok x) f p = f x p
ok_by P X (Err e) f p = tt
