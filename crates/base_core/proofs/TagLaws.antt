-- What setting a tag of a game makes of the base, where the files tell it.
use Rattle.std.proofs.Common.{◌≡◌, ◌<◌, ◌≤◌, ℕ, List, ◌++◌, length, nat_lt, Option, Some, None, IfSome, Result, Ok, Err, OnOk, IfErr, inl, inr, sym, ap, ◌∙◌, subst}
use Rattle.std.proofs.lemmas.Bool.{cases_Bool, ltb-false, ltb-true}
use Rattle.base_files.specs.Seen.{Seen, appended}
use Rattle.base_files.specs.Told.{TellsLength, adds}
use Rattle.block_store.specs.Placing.{padded}
use Rattle.game_codec.specs.Written.{written_record}
use Rattle.game_tree.specs.Game.{GameTree}
use Rattle.game_tree.specs.TagEdit.{edited}
use Rattle.game_tree.specs.declared.head.Head.{Head}
use Rattle.game_tree.specs.declared.tag_edit.TagEdit.{TagEdit}
use Rattle.base_core.specs.declared.fault.EditError.{EditError}
use Rattle.base_core.specs.declared.fault.EditError.TheVariants as error
use Rattle.base_core.specs.Base.{Base, Held}
use Rattle.base_core.specs.Edited.{CanPlace, Places, WhyNotReplaced, first_full}
use Rattle.base_core.specs.Edits.{end_with, game_replaced, names_with, tagged, tagged_at}
use Rattle.base_core.specs.GameAt.{IsGameAt, IsShown, SaysWhy}
use Rattle.base_core.specs.Represents.{Kept, Represents}
use Rattle.base_core.specs.Tagged.{IsTagged, Tags, WhyNotTagged}
use Rattle.base_core.proofs.Lists.{get_some}
use Rattle.base_core.proofs.Results.{ok_err}

tag-one : (i : ℕ) (edit : TagEdit) (old new : Kept) (games : List ℕ) (head : Head) (game : GameTree) → old.end ≡ length games → i < length old.entries → IsGameAt old games i head game →
    Places (written_record (edited head edit).tags game) (game_replaced i (edited head edit) game) old new → (base : Base) → Represents old games base →
    Represents new (games ++ padded old.end (written_record (edited head edit).tags game)) (tagged i edit base)
unfolding tagged
tag-one i edit old new games head game long there read places base is =
    let held = get_some base.games i (subst (λ (n : ℕ). i < n) is.count there) in
    let same = read base held.0 is held.1 in
    let file = games ++ padded old.end (written_record (edited head edit).tags game) in
    let T : Option Held → Type 0 = λ o. Represents new file (tagged_at i edit o base) in
    let G : Head → GameTree → Type 0 = λ h g. Represents new file (game_replaced i (edited h edit) g base) in
    subst T (sym held.1) (subst (λ (g : GameTree). G held.0.head g) same.1 (subst (λ (h : Head). G h game) same.0 (places games base (sym long) is)))

tag-by : (i : ℕ) (edit : TagEdit) (old new : Kept) (told now : Option (List ℕ)) (head : Head) (game : GameTree) → TellsLength told old.end → i < length old.entries →
    IfSome told (λ games. IsGameAt old games i head game) → Places (written_record (edited head edit).tags game) (game_replaced i (edited head edit) game) old new →
    now ≡ adds told (padded old.end (written_record (edited head edit).tags game)) → Tags i edit old new told now
tag-by i edit old new None now head game long there read places is = tt
tag-by i edit old new (Some games) now head game long there read places is =
    let N : Option (List ℕ) → Type 0 = λ o. IfSome o (λ after. (base : Base) → Represents old games base → Represents new after (tagged i edit base)) in
    subst N (sym is) (tag-one i edit old new games head game long there read places)

pub tags-told : (i : ℕ) (edit : TagEdit) (old new : Kept) (before after : Seen) (buf : List ℕ) → TellsLength before.games old.end → i < length old.entries → IsTagged i edit old new before after buf → Tags i edit old new before.games after.games
tags-told i edit old new before after buf long there is =
    tag-by i edit old new before.games after.games is.head is.game long there is.read is.replaced (ap (λ (s : Seen). s.games) is.appended)

-- Why a tag is not set, where the game is not read.
pub unread-so : (kept : Kept) (told : Option (List ℕ)) (i : ℕ) (edit : TagEdit) (buf : List ℕ) (e : EditError) → SaysWhy kept told i buf e → WhyNotTagged kept told i edit buf e
unread-so kept told i edit buf (error.NoGame n) why = why
unread-so kept told i edit buf (error.Changed game sig found) why = why
unread-so kept told i edit buf (error.TooLong n) why = absurd why
unread-so kept told i edit buf (error.Full w) why = absurd why
unread-so kept told i edit buf error.Failed why = tt
unread-so kept told i edit buf error.Memory why = tt

-- And where it is not placed.
pub unplaced-so : (kept : Kept) (told : Option (List ℕ)) (i : ℕ) (edit : TagEdit) (buf : List ℕ) (head : Head) (game : GameTree) (e : EditError) → IsShown kept i buf head game → IfSome told (λ games. IsGameAt kept games i head game) →
    WhyNotReplaced kept i (length (written_record (edited head edit).tags game)) (first_full (length kept.entries) (names_with (edited head edit) kept.names) (end_with (edited head edit) game kept.end)) e →
    WhyNotTagged kept told i edit buf e
unplaced-so kept told i edit buf head game (error.NoGame n) shown read why = why
unplaced-so kept told i edit buf head game (error.Changed g sig found) shown read why = absurd why
unplaced-so kept told i edit buf head game (error.TooLong n) shown read why = record { head = head; game = game; shown = shown; read = read; why = why }
unplaced-so kept told i edit buf head game (error.Full w) shown read why = record { head = head; game = game; shown = shown; read = read; why = why }
unplaced-so kept told i edit buf head game error.Failed shown read why = tt
unplaced-so kept told i edit buf head game error.Memory shown read why = tt

-- ---- where the edit was done, and where it was refused.

pub sets : {A : Type 0} (r : Result A EditError) (i : ℕ) (edit : TagEdit) (old new : Kept) (before mid after : Seen) (buf : List ℕ) (head next : Head) (game : GameTree) → next ≡ edited head edit → mid ≡ before → IsShown old i buf head game →
    IfSome before.games (λ games. IsGameAt old games i head game) → OnOk r (Places (written_record next.tags game) (game_replaced i next game) old new) →
    OnOk r (CanPlace (length (written_record next.tags game)) (first_full (length old.entries) (names_with next old.names) (end_with next game old.end))) →
    OnOk r (after ≡ appended (padded old.end (written_record next.tags game)) mid) → OnOk r (IsTagged i edit old new before after buf)
sets (Err e) i edit old new before mid after buf head next game is same shown read done room more = tt
sets (Ok x) i edit old new before mid after buf head next game is same shown read done room more =
    let P : Head → Type 0 = λ h. Places (written_record h.tags game) (game_replaced i h game) old new in
    let R : Head → Type 0 = λ h. CanPlace (length (written_record h.tags game)) (first_full (length old.entries) (names_with h old.names) (end_with h game old.end)) in
    record {
      head = head;
      game = game;
      shown = shown;
      read = read;
      replaced = subst P is done;
      room = subst R is room;
      appended = more
          ∙ (ap (λ (s : Seen). appended (padded old.end (written_record next.tags game)) s) same ∙ ap (λ (h : Head). appended (padded old.end (written_record h.tags game)) before) is);
    }

pub sets-told : {A : Type 0} (r : Result A EditError) (i : ℕ) (edit : TagEdit) (old new : Kept) (before after : Seen) (buf : List ℕ) → TellsLength before.games old.end → i < length old.entries →
    OnOk r (IsTagged i edit old new before after buf) → OnOk r (Tags i edit old new before.games after.games)
sets-told (Err e) i edit old new before after buf long there is = tt
sets-told (Ok x) i edit old new before after buf long there is = tags-told i edit old new before after buf long there is

pub there-is : {A : Type 0} (r : Result A EditError) (x : A) (kept : Kept) (i : ℕ) → r ≡ Ok x → (length kept.entries ≤ i → r ≡ Err (error.NoGame i)) → i < length kept.entries
there-is r x kept i ok none =
    elim (cases_Bool (nat_lt i (length kept.entries))) [
      | inl below ↦ ltb-true i (length kept.entries) below
      | inr past ↦ absurd (ok_err r x (error.NoGame i) ok (none (ltb-false i (length kept.entries) past)))
    ]

pub unplaced-all : {A : Type 0} (r : Result A EditError) (kept : Kept) (told : Option (List ℕ)) (i : ℕ) (edit : TagEdit) (buf : List ℕ) (head next : Head) (game : GameTree) → next ≡ edited head edit → IsShown kept i buf head game →
    IfSome told (λ games. IsGameAt kept games i head game) →
    IfErr r (WhyNotReplaced kept i (length (written_record next.tags game)) (first_full (length kept.entries) (names_with next kept.names) (end_with next game kept.end))) → IfErr r (WhyNotTagged kept told i edit buf)
unplaced-all (Ok x) kept told i edit buf head next game is shown read why = tt
unplaced-all (Err e) kept told i edit buf head next game is shown read why =
    let W : Head → Type 0 = λ h. WhyNotReplaced kept i (length (written_record h.tags game)) (first_full (length kept.entries) (names_with h kept.names) (end_with h game kept.end)) e in
    unplaced-so kept told i edit buf head game e shown read (subst W is why)
