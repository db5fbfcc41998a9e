-- What a command makes of what is shared, whoever says it.
use Rattle.std.proofs.Common.{◌≡◌, ℕ, zero, suc, ◌+◌, Bool, true, false, cond, List, [], ◌∷◌, Option, Some, None, Result, Ok, Err, slice_get, slice_set, nat_lt, refl, sym, ap, subst, ◌∙◌, length}
use Rattle.base_core.specs.Base.{Base, Held}
use Rattle.base_core.specs.Edits.{added}
use Rattle.command_runs.specs.Plain.{after_all}
use Rattle.demo_games.specs.Demo.{Made, demo_game}
use Rattle.edit_commands.specs.Compacting.{is_within, compacted_state}
use Rattle.edit_commands.proofs.TagLaws.{tagged_there, unless_refused}
use Rattle.edit_commands.proofs.EditLaws.{edited_there}
use Rattle.base_core.specs.Edits.{deleted, undeleted, marked, tagged}
use Rattle.eco_class.specs.Reading.{table_of}
use Rattle.eco_class.specs.Table.{Opening}
use Rattle.eco_class.specs.declared.fault.EcoFault.{EcoFault}
use Rattle.filter_seat.specs.Seats.{Seat}
use Rattle.game_tree.specs.Game.{GameTree}
use Rattle.game_tree.specs.Replay.{plies_of}
use Rattle.game_tree.specs.TagEdit.{edited}
use Rattle.game_tree.specs.declared.head.Head.{Head}
use Rattle.game_tree.specs.declared.tag_edit.TagEdit.{TagEdit}
use Rattle.search_commands.proofs.DemoLaws.{unless_shown, unless_ended, unless_refusal}
use Rattle.search_commands.specs.Demo.{Adding, adding, one_more}
use Rattle.intake_commands.specs.Importing.{Intake, intake, item_after, none_taken, state_with, the_new}
use Rattle.intake_commands.proofs.ByCase.{new_game, unless_not_added}
use Rattle.pgn_read.specs.Items.{items_of}
use Rattle.pgn_read.specs.declared.item.Item.{Item}
use Rattle.pgn_read.specs.declared.item.Item.TheVariants.{Good, Bad}
use Rattle.report_commands.specs.Classifying.{state_by}
use Rattle.report_commands.specs.Twins.{with_deleted, found_twins}
use Rattle.script_text.specs.declared.command.Command.{Command}
use Rattle.script_text.specs.declared.command.Command.TheVariants.{Nothing, Find, SearchPosition, SearchMaterial, SearchHeader, Reset, Clear, Negate, Restrict, Keep, Take, And, Or, Drop, Hits, List as Listing, Show, Export, Import, Replace, Eco, Tag, Delete, Undelete, Mark, Tree, Watch, View, Unwatch, Cross, Twins, Index, Save, Info, Demo, Quit, Compact}
use Rattle.script_text.specs.declared.fault.ScriptFault.{ScriptFault}
use Rattle.cell_core.specs.Packed.{packed_of}
use Rattle.shell_commands.specs.Tasks.{order_work}
use Rattle.shell_state.specs.Refusing.{not_added, refusal_of, index_is_full}
use Rattle.shell_state.specs.Slots.{Slot}
use Rattle.shell_state.specs.State.{Shared, State, with_index}
use Rattle.shell_state.specs.declared.refusing.Refusal.{Refusal}
use Rattle.view_commands.specs.Views.{left, own_slot, showing, with_slot}
use Rattle.view_commands.specs.declared.window.Window.{Window}
use Rattle.desk_commands.specs.Kinds.{is_private, order_kind}

-- What a client has of his own: his seat, and what his slots show.
pub record Own : Type 0 where
  pub seat : Seat
  pub slots : List Slot

-- The state of these two parts.
abbrev pub state_of : Shared → Own → State
state_of shared own = record { shared = shared; seat = own.seat; slots = own.slots }

-- ---- private commands

slot-chosen : (b : Bool) (s : State) (slots : List Slot) → (cond b (record s { slots = slots }) s).shared ≡ s.shared
slot-chosen true s slots = refl
slot-chosen false s slots = refl

slot-keeps : (w : Window) (s : State) (k : ℕ) (slot : Slot) → (with_slot w s k slot).shared ≡ s.shared
slot-keeps w s k slot = slot-chosen (nat_lt k w.count) s (slice_set s.slots (w.first + k) slot)

pub private-keeps : (w : Window) (order : Result Command ScriptFault) (body : List ℕ) (h : Shared) (own : Own) → is_private (order_kind order) ≡ true
    → ((order_work w order body).after (state_of h own)).shared ≡ h
private-keeps w (Err fault) body h own e = refl
private-keeps w (Ok Nothing) body h own e = refl
private-keeps w (Ok (Find board side)) body h own e = refl
private-keeps w (Ok (SearchPosition op query)) body h own e = refl
private-keeps w (Ok (SearchMaterial op query)) body h own e = refl
private-keeps w (Ok (SearchHeader op query)) body h own e = refl
private-keeps w (Ok Reset) body h own e = refl
private-keeps w (Ok Clear) body h own e = refl
private-keeps w (Ok Negate) body h own e = refl
private-keeps w (Ok (Restrict first last)) body h own e = refl
private-keeps w (Ok (Keep name)) body h own e = refl
private-keeps w (Ok (Take name)) body h own e = refl
private-keeps w (Ok (And name)) body h own e = refl
private-keeps w (Ok (Or name)) body h own e = refl
private-keeps w (Ok (Drop name)) body h own e = refl
private-keeps w (Ok Hits) body h own e = refl
private-keeps w (Ok Listing) body h own e = refl
private-keeps w (Ok (Show game)) body h own e = refl
private-keeps w (Ok Export) body h own e = refl
private-keeps w (Ok (Import word)) body h own e = absurd cc
private-keeps w (Ok (Replace game word)) body h own e = absurd cc
private-keeps w (Ok (Eco word)) body h own e = absurd cc
private-keeps w (Ok (Tag game edit)) body h own e = absurd cc
private-keeps w (Ok (Delete game)) body h own e = absurd cc
private-keeps w (Ok (Undelete game)) body h own e = absurd cc
private-keeps w (Ok (Mark game bit on)) body h own e = absurd cc
private-keeps w (Ok (Tree board side)) body h own e = refl
private-keeps w (Ok (Watch slot board side)) body h own e = slot-keeps w (state_of h own) slot (showing (packed_of board side) (own_slot w (state_of h own) slot))
private-keeps w (Ok (View slot)) body h own e = refl
private-keeps w (Ok (Unwatch slot)) body h own e = slot-keeps w (state_of h own) slot (left (own_slot w (state_of h own) slot))
private-keeps w (Ok (Cross event)) body h own e = refl
private-keeps w (Ok (Twins depth)) body h own e = absurd cc
private-keeps w (Ok (Index depth)) body h own e = absurd cc
private-keeps w (Ok Save) body h own e = absurd cc
private-keeps w (Ok Info) body h own e = refl
private-keeps w (Ok (Demo seed games)) body h own e = absurd cc
private-keeps w (Ok Quit) body h own e = absurd cc
private-keeps w (Ok Compact) body h own e = absurd cc

-- ---- games that come in

record AlikeIntakes (i j : Intake) : Type 0 where
  shared : i.state.shared ≡ j.state.shared
  added : i.added ≡ j.added
  refused : i.refused ≡ j.refused

abbrev with-game : Head → GameTree → Shared → Shared
with-game head game h = record h { base = added head game h.base; unsaved = true }

alike-unless : (o : Option Refusal) (i j : Intake) (head : Head) (game : GameTree) → AlikeIntakes i j
    → AlikeIntakes (unless_not_added o i head game) (unless_not_added o j head game)
alike-unless (Some words) i j head game alike = record { shared = alike.shared; added = alike.added; refused = ap (λ (n : ℕ). n + 1) alike.refused }
alike-unless None i j head game alike =
    record { shared = ap (with-game head game) alike.shared; added = ap (λ (n : ℕ). n + 1) alike.added; refused = alike.refused }

alike-item : (item : Item) (i j : Intake) → AlikeIntakes i j → AlikeIntakes (item_after i item) (item_after j item)
alike-item (Bad fault) i j alike = record { shared = alike.shared; added = alike.added; refused = ap (λ (n : ℕ). n + 1) alike.refused }
alike-item (Good head game) i j alike =
    subst (λ (o : Option Refusal). AlikeIntakes (unless_not_added (not_added i.state.shared head game) i head game) (unless_not_added o j head game))
    (ap (λ (h : Shared). not_added h head game) alike.shared) (alike-unless (not_added i.state.shared head game) i j head game alike)

alike-items : (items : List Item) (i j : Intake) → AlikeIntakes i j → (after_all intake i items).state.shared ≡ (after_all intake j items).state.shared
alike-items [] i j alike = alike.shared
alike-items (item ∷ items) i j alike = alike-items items (item_after i item) (item_after j item) (alike-item item i j alike)

record AlikeAddings (a b : Adding) : Type 0 where
  shared : a.state.shared ≡ b.state.shared
  number : a.number ≡ b.number
  plies : a.plies ≡ b.plies
  refused : a.refused ≡ b.refused

alike-refusal : (o : Option Refusal) (a b : Adding) (made : Made) → AlikeAddings a b → AlikeAddings (unless_refusal o a made) (unless_refusal o b made)
alike-refusal (Some line) a b made alike = record { shared = alike.shared; number = alike.number; plies = alike.plies; refused = refl }
alike-refusal None a b made alike = record {
  shared = ap (with-game made.head made.game) alike.shared;
  number = refl;
  plies = ap (λ (n : ℕ). n + plies_of made.game) alike.plies;
  refused = refl;
}

alike-ended : (o : Option Refusal) (a b : Adding) (made : Made) → AlikeAddings a b → AlikeAddings (unless_ended o a made) (unless_ended o b made)
alike-ended (Some line) a b made alike = alike
alike-ended None a b made alike =
    subst (λ (o : Option Refusal). AlikeAddings (unless_refusal (not_added a.state.shared made.head made.game) a made) (unless_refusal o b made))
    (ap (λ (h : Shared). not_added h made.head made.game) alike.shared) (alike-refusal (not_added a.state.shared made.head made.game) a b made alike)

alike-more : (n : ℕ) (a b : Adding) → AlikeAddings a b → AlikeAddings (one_more a n) (one_more b n)
alike-more n a b alike =
    subst (λ (o : Option Refusal). AlikeAddings (one_more a n) (unless_ended o b (demo_game b.number n))) alike.refused
    (subst (λ (k : ℕ). AlikeAddings (one_more a n) (unless_ended a.refused b (demo_game k n))) alike.number
    (alike-ended a.refused a b (demo_game a.number n) alike))

alike-adding : (n seed : ℕ) (h : Shared) (a b : Own) → AlikeAddings (adding (state_of h a) seed n) (adding (state_of h b) seed n)
alike-adding zero seed h a b = record { shared = refl; number = refl; plies = refl; refused = refl }
alike-adding (suc n) seed h a b = alike-more n (adding (state_of h a) seed n) (adding (state_of h b) seed n) (alike-adding n seed h a b)

alike-shown : (o : Option Refusal) (s t : State) → s.shared ≡ t.shared → (unless_shown o s).shared ≡ (unless_shown o t).shared
alike-shown (Some line) s t e = e
alike-shown None s t e = e

-- ---- edits

pub same-new : (h : Shared) (a b : Own) (game : ℕ) (held : Option Held) (items : List Item) → new_game (state_of h a) game held items ≡ new_game (state_of h b) game held items
same-new h a b game None items = refl
same-new h a b game (Some held) items = refl

same-with : (h : Shared) (a b : Own) (game : ℕ) (new : Result (Head × GameTree) (List ℕ)) → (state_with (state_of h a) game new).shared ≡ (state_with (state_of h b) game new).shared
same-with h a b game (Ok new) = refl
same-with h a b game (Err line) = refl

same-there : (edit : Base → Base) (h : Shared) (a b : Own) (held : Option Held) → (edited_there edit (state_of h a) held).shared ≡ (edited_there edit (state_of h b) held).shared
same-there edit h a b (Some held) = refl
same-there edit h a b None = refl

same-unless : (h : Shared) (a b : Own) (line : Option (List ℕ)) (base : Base) → (unless_refused line (state_of h a) base).shared ≡ (unless_refused line (state_of h b) base).shared
same-unless h a b (Some line) base = refl
same-unless h a b None base = refl

same-tagged : (game : ℕ) (edit : TagEdit) (h : Shared) (a b : Own) (held : Option Held)
    → (tagged_there game edit (state_of h a) held).shared ≡ (tagged_there game edit (state_of h b) held).shared
same-tagged game edit h a b (Some held) = same-unless h a b (refusal_of h.base (edited held.head edit) held.game) (tagged game edit h.base)
same-tagged game edit h a b None = refl

same-classified : (h : Shared) (a b : Own) (table : Result (List Opening) EcoFault) → (state_by (state_of h a) table).shared ≡ (state_by (state_of h b) table).shared
same-classified h a b (Ok table) = refl
same-classified h a b (Err fault) = refl

same-deleted : (h : Shared) (a b : Own) (games : List ℕ) → (with_deleted (state_of h a) games).shared ≡ (with_deleted (state_of h b) games).shared
same-deleted h a b [] = refl
same-deleted h a b (game ∷ games) = refl

same-compacted : (h : Shared) (a b : Own) (within : Bool)
    → (cond within (compacted_state (state_of h a)) (state_of h a)).shared ≡ (cond within (compacted_state (state_of h b)) (state_of h b)).shared
same-compacted h a b true = refl
same-compacted h a b false = refl

same-indexed : (h : Shared) (a b : Own) (big : Bool) (depth : ℕ)
    → (cond big (state_of h a) (with_index (state_of h a) (Some depth))).shared ≡ (cond big (state_of h b) (with_index (state_of h b) (Some depth))).shared
same-indexed h a b true depth = refl
same-indexed h a b false depth = refl

-- ---- all commands

pub same-shared : (w : Window) (order : Result Command ScriptFault) (body : List ℕ) (h : Shared) (a b : Own)
    → ((order_work w order body).after (state_of h a)).shared ≡ ((order_work w order body).after (state_of h b)).shared
same-shared w (Err fault) body h a b = refl
same-shared w (Ok Nothing) body h a b = refl
same-shared w (Ok (Find board side)) body h a b = refl
same-shared w (Ok (SearchPosition op query)) body h a b = refl
same-shared w (Ok (SearchMaterial op query)) body h a b = refl
same-shared w (Ok (SearchHeader op query)) body h a b = refl
same-shared w (Ok Reset) body h a b = refl
same-shared w (Ok Clear) body h a b = refl
same-shared w (Ok Negate) body h a b = refl
same-shared w (Ok (Restrict first last)) body h a b = refl
same-shared w (Ok (Keep name)) body h a b = refl
same-shared w (Ok (Take name)) body h a b = refl
same-shared w (Ok (And name)) body h a b = refl
same-shared w (Ok (Or name)) body h a b = refl
same-shared w (Ok (Drop name)) body h a b = refl
same-shared w (Ok Hits) body h a b = refl
same-shared w (Ok Listing) body h a b = refl
same-shared w (Ok (Show game)) body h a b = refl
same-shared w (Ok Export) body h a b = refl
same-shared w (Ok (Import word)) body h a b =
    alike-items (items_of body) (none_taken (state_of h a)) (none_taken (state_of h b)) (record { shared = refl; added = refl; refused = refl })
same-shared w (Ok (Replace game word)) body h a b =
    same-with h a b game (the_new (state_of h a) game body)
    ∙ ap (λ (new : Result (Head × GameTree) (List ℕ)). (state_with (state_of h b) game new).shared) (same-new h a b game (slice_get h.base.games game) (items_of body))
same-shared w (Ok (Eco word)) body h a b = same-classified h a b (table_of body)
same-shared w (Ok (Tag game edit)) body h a b = same-tagged game edit h a b (slice_get h.base.games game)
same-shared w (Ok (Delete game)) body h a b = same-there (deleted game) h a b (slice_get h.base.games game)
same-shared w (Ok (Undelete game)) body h a b = same-there (undeleted game) h a b (slice_get h.base.games game)
same-shared w (Ok (Mark game bit on)) body h a b = same-there (marked game bit on) h a b (slice_get h.base.games game)
same-shared w (Ok (Tree board side)) body h a b = refl
same-shared w (Ok (Watch slot board side)) body h a b = slot-keeps w (state_of h a) slot (showing (packed_of board side) (own_slot w (state_of h a) slot)) ∙ sym (slot-keeps w (state_of h b) slot (showing (packed_of board side) (own_slot w (state_of h b) slot)))
same-shared w (Ok (View slot)) body h a b = refl
same-shared w (Ok (Unwatch slot)) body h a b = slot-keeps w (state_of h a) slot (left (own_slot w (state_of h a) slot)) ∙ sym (slot-keeps w (state_of h b) slot (left (own_slot w (state_of h b) slot)))
same-shared w (Ok (Cross event)) body h a b = refl
same-shared w (Ok (Twins depth)) body h a b = same-deleted h a b (found_twins (state_of h a) depth)
same-shared w (Ok (Index (Some depth))) body h a b = same-indexed h a b (index_is_full (Some depth) (length h.base.games)) depth
same-shared w (Ok (Index None)) body h a b = refl
same-shared w (Ok Save) body h a b = refl
same-shared w (Ok Info) body h a b = refl
same-shared w (Ok (Demo seed games)) body h a b =
    let alike = alike-adding games seed h a b in
    alike-shown (adding (state_of h a) seed games).refused (adding (state_of h a) seed games).state (adding (state_of h b) seed games).state alike.shared
    ∙ ap (λ (o : Option Refusal). (unless_shown o (adding (state_of h b) seed games).state).shared) alike.refused
same-shared w (Ok Quit) body h a b = refl
same-shared w (Ok Compact) body h a b = same-compacted h a b (is_within h.base)
