-- Laws of `tag`.
use Rattle.std.proofs.Common.{◌≡◌, ℕ, List, Option, Some, IfSome, subst, sym, ap, ◌∙◌, ◌<◌, true, false, ◌++◌, length, None, arith, Ok, Err, inl, inr, refl, ◌≤◌, map, option_map, Bool, ap₂, Result, [], ◌∷◌}
use Rattle.std.proofs.lemmas.Option.{slice_get_past}
use Rattle.std.specs.Option.{option_map_or}
use Rattle.std.specs.Prelude.{cond, if◌then◌else◌, is_some, slice_get, unwrap_or, codes}
use Rattle.base_core.proofs.Lists.{get_some}
use Rattle.base_core.specs.Base.{Base, Held}
use Rattle.base_core.specs.Edits.{tagged, tagged_at, held_of, game_replaced}
use Rattle.base_core.specs.GameAt.{IsGameAt, IfChanged}
use Rattle.base_core.specs.Means.{HoldsNames}
use Rattle.base_core.specs.Represents.{Kept, Represents, heads_of}
use Rattle.base_core.specs.Tagged.{Tags, IsTagged, IsNotPlaced, WhyNotTagged}
use Rattle.base_core.specs.declared.fault.EditError.{EditError}
use Rattle.base_core.specs.declared.fault.EditError.TheVariants as edit
use Rattle.base_files.specs.Seen.{Seen}
use Rattle.base_files.specs.Told.{adds}
use Rattle.base_files.specs.declared.faults.Stop.TheVariants as stop
use Rattle.block_store.specs.Placing.{padded}
use Rattle.game_codec.specs.Written.{written_record}
use Rattle.game_tree.specs.Game.{GameTree}
use Rattle.game_tree.specs.TagEdit.{edited}
use Rattle.game_tree.specs.declared.head.Head.{Head}
use Rattle.game_tree.specs.declared.tag_edit.TagEdit.{TagEdit}
use Rattle.pos_index.specs.Hits.{Index, rows_told}
use Rattle.edit_commands.specs.Editing.{DidTag, tag_after, tag_text}
use Rattle.filter_seat.specs.declared.saved.SavedFilter.{SavedFilter}
use Rattle.edit_commands.proofs.RetagLaws.{slots_tagged}
use Rattle.edit_commands.specs.Retagging.{AreAgain}
use Rattle.shell_state.proofs.IndexLaws.{index_is, same_games}
use Rattle.shell_state.proofs.CarryLaws.{beside_grown}
use Rattle.shell_state.proofs.EditedLaws.{kept_refusal, kept-refusal, none_lined, lined_so}
use Rattle.shell_state.proofs.PriceLaws.{len_looks}
use Rattle.shell_state.proofs.Quietly.{held_by, tables_with}
use Rattle.shell_state.specs.Ends.{refused_line, IsThere, IsDevice, EndsAs}
use Rattle.shell_state.specs.Lines.{game_line, no_game_line}
use Rattle.shell_state.specs.Passing.{len_in}
use Rattle.shell_state.specs.Refusing.{refusal_of}
use Rattle.shell_state.specs.Slots.{HitTable}
use Rattle.shell_state.specs.Stands.{len_at, Stands, looks_in, Holding, Tables, index_of}
use Rattle.shell_state.specs.State.{State, with_base}
use Rattle.shell_state.specs.Work.{Look}
use Rattle.shell_state.specs.declared.halt.Halt.{Halt}
use Rattle.shell_state.specs.declared.halt.Halt.TheVariants as halt
use Rattle.sig_index.specs.Games.{head_in}
use Rattle.tree_live.specs.Slots.{in_slot}
use Rattle.tree_live.specs.Watching.{Watched, with_game}
use Rattle.tree_rows.specs.declared.hit.GameHit.{GameHit}

-- What `tag` does, by the game that is there.
abbrev pub untagged_there : ℕ → TagEdit → State → Option Held → Option (List ℕ)
untagged_there game edit s held = option_map_or (λ held. refusal_of s.shared.base (edited held.head edit) held.game) held (Some (no_game_line game))

abbrev pub tagged_there : ℕ → TagEdit → State → Option Held → State
tagged_there game edit s held = if is_some (untagged_there game edit s held) then s else with_base s (tagged game edit s.shared.base)

abbrev pub tag_line_there : ℕ → TagEdit → State → Option Held → List ℕ
tag_line_there game edit s held = unwrap_or (untagged_there game edit s held) (game_line (codes "tagged ") game)

-- The state with this base, unless there is an error line.
abbrev pub unless_refused : Option (List ℕ) → State → Base → State
unless_refused line s base = cond (is_some line) s (with_base s base)

-- The game that was read is that of the base.
read-is : (kept : Kept) (games : List ℕ) (told : Option (List ℕ)) (i : ℕ) (head : Head) (game : GameTree) (base : Base) (held : Held) → told ≡ Some games → IfSome told (λ bytes. IsGameAt kept bytes i head game)
    → Represents kept games base → slice_get base.games i ≡ Some held → (head ≡ held.head) × (game ≡ held.game)
read-is kept games told i head game base held same read is at =
    let P : Option (List ℕ) → Type 0 = λ o. IfSome o (λ bytes. IsGameAt kept bytes i head game) in
    (subst P same read) base held is at

refusal-read : (kept : Kept) (games : List ℕ) (base : Base) (held : Held) (tag : TagEdit) (head : Head) (game : GameTree) (answer : Option (List ℕ)) → Represents kept games base
    → (head ≡ held.head) × (game ≡ held.game) → kept_refusal kept (edited head tag) game ≡ answer → refusal_of base (edited held.head tag) held.game ≡ answer
refusal-read kept games base held tag head game answer is same refused =
    sym (kept-refusal kept games base (edited held.head tag) held.game is)
    ∙ sym (ap (λ (h : Head). kept_refusal kept (edited h tag) held.game) same.0)
    ∙ sym (ap (λ (g : GameTree). kept_refusal kept (edited head tag) g) same.1)
    ∙ refused

-- The tag was set.
base_tagged : (old new : Kept) (i : ℕ) (tag : TagEdit) (told now : Option (List ℕ)) (games after : List ℕ) (base : Base) → Tags i tag old new told now → told ≡ Some games → now ≡ Some after → Represents old games base
    → Represents new after (tagged i tag base)
base_tagged old new i tag told now games after base tags is later there =
    let P : Option (List ℕ) → Type 0 = λ t. IfSome t (λ games. IfSome now (λ after. (base : Base) → Represents old games base → Represents new after (tagged i tag base))) in
    let Q : Option (List ℕ) → Type 0 = λ n. IfSome n (λ after. (base : Base) → Represents old games base → Represents new after (tagged i tag base)) in
    (subst Q later (subst P is tags)) base there

-- An edit of tags leaves the games.
tagged_games : (i : ℕ) (tag : TagEdit) (base : Base) (held : Held) → slice_get base.games i ≡ Some held
    → map (λ (h : Held). h.game) (tagged i tag base).games ≡ map (λ (h : Held). h.game) base.games
unfolding tagged game_replaced
tagged_games i tag base held there =
    ap (λ (o : Option Held). map (λ (h : Held). h.game) (tagged_at i tag o base).games) there
    ∙ same_games (λ _. held_of (edited held.head tag) held.game) i base.games held there refl

pub tag_stands : (old new : Kept) (index : Option Index) (watches watches' : List (Option Watched)) (hits : List (Option GameHit)) (filter : List (Option ℕ)) (saved : List SavedFilter) (seen seen' : Seen) (buf : List ℕ)
    (s : State) (i : ℕ) (tag : TagEdit) → Stands (held_by old (tables_with index watches) filter saved) seen s → i < length old.entries
    → IsTagged i tag old new seen seen' buf → Tags i tag old new seen.games seen'.games → new.unsaved ≡ true → HoldsNames new.names old.names
    → length watches' ≡ length watches → AreAgain (head_in (heads_of new) i) i watches hits
    → ((k : ℕ) → in_slot watches' k ≡ option_map (λ (w : Watched). record w { games = with_game i (record { hit = in_slot hits k; is_in = false }) w.games }) (in_slot watches k))
    → Stands (held_by new (tables_with index watches') filter saved) seen' (tag_after s i tag)
tag_stands old new index watches watches' hits filter saved seen seen' buf s i tag st there is tags unsaved names count again follow =
    let held = get_some s.shared.base.games i (omega (arith, there, st.base.count)) in
    let bytes : List ℕ = padded old.end (written_record (edited is.head tag).tags is.game) in
    let same = read-is old st.games seen.games i is.head is.game s.shared.base held.0 st.told is.read st.base held.1 in
    let none : refusal_of s.shared.base (edited held.0.head tag) held.0.game ≡ None =
    refusal-read old st.games s.shared.base held.0 tag is.head is.game None st.base same (none_lined _ _ is.room) in
    let later : seen'.games ≡ Some (st.games ++ bytes) = ap (λ (x : Seen). x.games) is.appended ∙ ap (λ (g : Option (List ℕ)). adds g bytes) st.told in
    let stood : Represents new (st.games ++ bytes) (tagged i tag s.shared.base) =
    base_tagged old new i tag seen.games seen'.games st.games (st.games ++ bytes) s.shared.base tags st.told later st.base in
    let standing : Stands (held_by new (tables_with index watches') filter saved) seen' (unless_refused None s (tagged i tag s.shared.base)) = record {
      games = st.games ++ bytes;
      told = later;
      base = stood;
      seat = st.seat;
      unsaved = unsaved;
      carried = beside_grown old new seen seen' bytes s.shared.unsaved s.shared.carried is.appended names st.carried;
      tables = ap₂ (λ (x : Option Index) (hits : List (Option HitTable)). record { index = x; hits = hits })
          (index_is st ∙ ap (λ (games : List GameTree). option_map (index_of games) s.shared.index) (sym (tagged_games i tag s.shared.base held.0 held.1)))
          (slots_tagged new (st.games ++ bytes) s.shared.base i tag held.0 hits watches watches' s.slots held.1 (omega (arith, there, st.base.count)) stood count again follow
          (ap (λ (t : Tables). t.hits) st.tables));
      fresh = ap (λ (x : Seen). x.fresh) is.appended ∙ st.fresh;
    } in
    subst (Stands (held_by new (tables_with index watches') filter saved) seen') (ap (λ (r : Option (List ℕ)). unless_refused r s (tagged i tag s.shared.base)) (sym none) ∙ ap (tagged_there i tag s) (sym held.1)) standing

pub tag_says : (old new : Kept) (tables : Tables) (filter : List (Option ℕ)) (saved : List SavedFilter) (seen seen' : Seen) (buf : List ℕ) (s : State) (i : ℕ) (tag : TagEdit) (line : List ℕ) → Stands (held_by old tables filter saved) seen s → i < length old.entries
    → IsTagged i tag old new seen seen' buf → line ≡ game_line (codes "tagged ") i → line ≡ tag_text s i tag
tag_says old new tables filter saved seen seen' buf s i tag line st there is written =
    let held = get_some s.shared.base.games i (omega (arith, there, st.base.count)) in
    let same = read-is old st.games seen.games i is.head is.game s.shared.base held.0 st.told is.read st.base held.1 in
    let none : refusal_of s.shared.base (edited held.0.head tag) held.0.game ≡ None =
    refusal-read old st.games s.shared.base held.0 tag is.head is.game None st.base same (none_lined _ _ is.room) in
    written ∙ ap (λ (r : Option (List ℕ)). unwrap_or r (game_line (codes "tagged ") i)) (sym none) ∙ ap (tag_line_there i tag s) (sym held.1)

-- It was refused.
not_placed : (e : EditError) (kept : Kept) (told : Option (List ℕ)) (i : ℕ) (tag : TagEdit) (buf : List ℕ) (line : List ℕ) → WhyNotTagged kept told i tag buf e → i < length kept.entries → refused_line e ≡ Ok line
    → IsNotPlaced kept told i tag buf e
not_placed (edit.TooLong n) kept told i tag buf line why there ends = why
not_placed (edit.Full what) kept told i tag buf line why there ends = why
not_placed (edit.NoGame n) kept told i tag buf line why there ends = absurd (omega (arith, why.1, there))
not_placed (edit.Changed g sig found) kept told i tag buf line why there ends = cc
not_placed edit.Failed kept told i tag buf line why there ends = cc
not_placed edit.Memory kept told i tag buf line why there ends = cc

refused-line : (kept : Kept) (tables : Tables) (filter : List (Option ℕ)) (saved : List SavedFilter) (seen : Seen) (s : State) (i : ℕ) (tag : TagEdit) (e : EditError) (buf line : List ℕ) → (st : Stands (held_by kept tables filter saved) seen s)
    → i < length kept.entries → WhyNotTagged kept seen.games i tag buf e → refused_line e ≡ Ok line
    → (held : Held) × (slice_get s.shared.base.games i ≡ Some held) × (refusal_of s.shared.base (edited held.head tag) held.game ≡ Some line)
refused-line kept tables filter saved seen s i tag e buf line st there why ends =
    let held = get_some s.shared.base.games i (omega (arith, there, st.base.count)) in
    let is = not_placed e kept seen.games i tag buf line why there ends in
    let same = read-is kept st.games seen.games i is.head is.game s.shared.base held.0 st.told is.read st.base held.1 in
    (held.0, held.1, refusal-read kept st.games s.shared.base held.0 tag is.head is.game (Some line) st.base same (lined_so e _ _ line is.why ends))

pub refused_stands : (kept : Kept) (tables : Tables) (filter : List (Option ℕ)) (saved : List SavedFilter) (seen seen' : Seen) (s : State) (i : ℕ) (tag : TagEdit) (e : EditError) (buf line : List ℕ)
    → Stands (held_by kept tables filter saved) seen s → i < length kept.entries → WhyNotTagged kept seen.games i tag buf e → refused_line e ≡ Ok line → seen' ≡ seen
    → Stands (held_by kept tables filter saved) seen' (tag_after s i tag)
refused_stands kept tables filter saved seen seen' s i tag e buf line st there why ends same =
    let refused = refused-line kept tables filter saved seen s i tag e buf line st there why ends in
    let after : s ≡ tag_after s i tag = ap (λ (r : Option (List ℕ)). unless_refused r s (tagged i tag s.shared.base)) (sym refused.2) ∙ ap (tagged_there i tag s) (sym refused.1) in
    subst (Stands (held_by kept tables filter saved) seen') after (subst (λ (x : Seen). Stands (held_by kept tables filter saved) x s) (sym same) st)

pub refused_says : (kept : Kept) (tables : Tables) (filter : List (Option ℕ)) (saved : List SavedFilter) (seen : Seen) (s : State) (i : ℕ) (tag : TagEdit) (e : EditError) (buf line : List ℕ)
    → Stands (held_by kept tables filter saved) seen s → i < length kept.entries → WhyNotTagged kept seen.games i tag buf e → refused_line e ≡ Ok line → line ≡ tag_text s i tag
refused_says kept tables filter saved seen s i tag e buf line st there why ends =
    let refused = refused-line kept tables filter saved seen s i tag e buf line st there why ends in
    ap (λ (r : Option (List ℕ)). unwrap_or r (game_line (codes "tagged ") i)) (sym refused.2) ∙ ap (tag_line_there i tag s) (sym refused.1)

pub is_there : (e : EditError) (kept : Kept) (told : Option (List ℕ)) (i : ℕ) (tag : TagEdit) (buf : List ℕ) → WhyNotTagged kept told i tag buf e → i < length kept.entries → IsThere e
is_there (edit.NoGame n) kept told i tag buf why there = absurd (omega (arith, why.1, there))
is_there (edit.TooLong n) kept told i tag buf why there = tt
is_there (edit.Full what) kept told i tag buf why there = tt
is_there (edit.Changed g sig found) kept told i tag buf why there = tt
is_there edit.Failed kept told i tag buf why there = tt
is_there edit.Memory kept told i tag buf why there = tt

-- Told files end it by a device alone.
unchanged_told : (kept : Kept) (games : List ℕ) (told : Option (List ℕ)) (base : Base) → told ≡ Some games → Represents kept games base
    → IfSome told (λ bytes. (other : Base) → Represents kept bytes other → ⊥) → ⊥
unchanged_told kept games told base same is none =
    let P : Option (List ℕ) → Type 0 = λ o. IfSome o (λ bytes. (other : Base) → Represents kept bytes other → ⊥) in
    (subst P same none) base is

device_so : (e : EditError) (h : Halt) (kept : Kept) (games : List ℕ) (told : Option (List ℕ)) (base : Base) → told ≡ Some games → Represents kept games base
    → IfChanged e (IfSome told (λ bytes. (other : Base) → Represents kept bytes other → ⊥)) → refused_line e ≡ Err h → IsDevice h
device_so (edit.TooLong n) h kept games told base same is changed ends = cc
device_so (edit.Full what) h kept games told base same is changed ends = cc
device_so (edit.NoGame n) h kept games told base same is changed ends = let e : halt.Device stop.Memory ≡ h = cc in subst IsDevice e tt
device_so (edit.Changed g sig found) h kept games told base same is changed ends = absurd (unchanged_told kept games told base same is changed)
device_so edit.Failed h kept games told base same is changed ends = let e : halt.Device stop.Files ≡ h = cc in subst IsDevice e tt
device_so edit.Memory h kept games told base same is changed ends = let e : halt.Device stop.Memory ≡ h = cc in subst IsDevice e tt

pub tag_device : (e : EditError) (h : Halt) (kept : Kept) (tables : Tables) (filter : List (Option ℕ)) (saved : List SavedFilter) (seen : Seen) (s : State) → Stands (held_by kept tables filter saved) seen s
    → IfChanged e (IfSome seen.games (λ bytes. (other : Base) → Represents kept bytes other → ⊥)) → EndsAs (refused_line e) h → IsDevice h
tag_device e h kept tables filter saved seen s st changed (inl memory) = subst IsDevice (sym memory) tt
tag_device e h kept tables filter saved seen s st changed (inr ends) = device_so e h kept st.games seen.games s.shared.base st.told st.base changed ends

-- What the command asks is what it costs.
pub tag_price : (holding : Holding) (game : ℕ) → len_at holding.kept.entries game ≡ len_in (λ (x : Look). x.len) (slice_get (looks_in holding) game)
tag_price holding game = len_looks holding.kept.names (rows_told holding.tables.index) holding.kept.entries game

-- A game that is not there.
no_game : (holding : Holding) (seen : Seen) (s : State) (number : ℕ) → Stands holding seen s → length holding.kept.entries ≤ number → slice_get s.shared.base.games number ≡ None
no_game holding seen s number st past = slice_get_past s.shared.base.games number (omega (arith, past, st.base.count))

pub no_game_stands : (holding : Holding) (seen : Seen) (s : State) (number : ℕ) (tag : TagEdit) → Stands holding seen s → length holding.kept.entries ≤ number → Stands holding seen (tag_after s number tag)
no_game_stands holding seen s number tag st past =
    let state : s ≡ tag_after s number tag = ap (tagged_there number tag s) (sym (no_game holding seen s number st past)) in
    subst (Stands holding seen) state st

pub no_game_says : (holding : Holding) (seen : Seen) (s : State) (number : ℕ) (tag : TagEdit) (line : List ℕ) → Stands holding seen s → length holding.kept.entries ≤ number → line ≡ no_game_line number → line ≡ tag_text s number tag
no_game_says holding seen s number tag line st past is = is ∙ ap (tag_line_there number tag s) (sym (no_game holding seen s number st past))

-- The first byte of a line: an error line has another one than the line of a tag that was set.
abbrev first_byte : List ℕ → ℕ
first_byte [] = 0
first_byte (byte ∷ bytes) = byte

no_tagged : (line : List ℕ) (game : ℕ) → first_byte line ≡ 101 → line ≡ game_line (codes "tagged ") game → ⊥
no_tagged line game error same =
    let e : 101 ≡ 116 = sym error ∙ ap first_byte same in
    omega (arith, e)

abbrev first_of : Result (List ℕ) Halt → ℕ
first_of (Ok line) = first_byte line
first_of (Err halt) = 101

first_refused : (error : EditError) → first_of (refused_line error) ≡ 101
first_refused (edit.NoGame game) = refl
first_refused (edit.TooLong size) = refl
first_refused (edit.Full what) = refl
first_refused (edit.Changed game kept found) = refl
first_refused edit.Failed = refl
first_refused edit.Memory = refl

-- A tag that was set; an edit that was refused; and no game.
pub did_tag : (game : ℕ) (tag : TagEdit) (old new : Kept) (before after : Seen) (buffer line : List ℕ) → line ≡ game_line (codes "tagged ") game → IsTagged game tag old new before after buffer
    → DidTag game tag old new before after line
did_tag game tag old new before after buffer line is tagged = record { tagged = λ same. (buffer, tagged); refused = λ no. absurd (no is) }

pub refused_tag : (game : ℕ) (tag : TagEdit) (old new : Kept) (before after : Seen) (error : EditError) (line : List ℕ) → refused_line error ≡ Ok line → new ≡ old
    → DidTag game tag old new before after line
refused_tag game tag old new before after error line is same =
    record { tagged = λ says. absurd (no_tagged line game (sym (ap first_of is) ∙ first_refused error) says); refused = λ no. same }

pub untagged : (game : ℕ) (tag : TagEdit) (old : Kept) (before after : Seen) (line : List ℕ) → line ≡ no_game_line game → DidTag game tag old old before after line
untagged game tag old before after line is = record { tagged = λ says. absurd (no_tagged line game (ap first_byte is) says); refused = λ no. refl }
