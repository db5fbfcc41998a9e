-- Laws of refused tasks: a text that begins with `error: ` leaves the state as it was.
use Rattle.filter_seat.specs.declared.saved.SavedFilter.{SavedFilter}
use Rattle.std.specs.Option.{option_map_or}
use Rattle.std.proofs.Common.{◌≡◌, ◌<◌, ◌+◌, ◌%◌, ◌^◌, true≢false, ℕ, Bool, true, false, List, [], ◌∷◌, ◌++◌, length, Option, Some, None, Result, Ok, Err, refl, sym, ap, ◌∙◌, subst, arith, append_assoc, append-nil}
use Rattle.std.specs.Prelude.{codes, unwrap_or, if◌then◌else◌, is_some, nat_eq, nat_lt, option_and_then, slice_get, slice_set, ◌||◌, take, drop, option_map}
use Rattle.std.specs.Fmt.{decimal}
use Rattle.std.proofs.lemmas.Fmt.{decimal_by_steps}
use Rattle.std.proofs.lemmas.List.{set-get_or}
use Rattle.cell_core.specs.Packed.{Packed, packed_of}
use Rattle.base_core.specs.Base.{Base, Held}
use Rattle.base_core.specs.Edits.{added, deleted, held_of, marked, undeleted}
use Rattle.command_runs.specs.Plain.{after_all}
use Rattle.eco_class.specs.Reading.{table_of}
use Rattle.eco_class.specs.Table.{Opening}
use Rattle.eco_class.specs.declared.fault.EcoFault.{EcoFault}
use Rattle.game_tree.specs.Game.{GameTree}
use Rattle.game_tree.specs.TagEdit.{edited}
use Rattle.game_tree.specs.declared.head.Head.{Head}
use Rattle.game_tree.specs.declared.tag_edit.TagEdit.{TagEdit}
use Rattle.pgn_read.specs.Items.{items_of}
use Rattle.pgn_read.specs.declared.item.Item.{Item}
use Rattle.script_text.specs.Tasks.{Order, Task}
use Rattle.script_text.specs.declared.command.Command.{Command}
use Rattle.script_text.specs.declared.command.Command.TheVariants.{Find, SearchPosition, SearchMaterial, SearchHeader, Reset, Clear, Negate, Restrict, Keep, Take, And, Or, Drop, Import, Replace, Eco, Tag, Delete, Undelete, Mark, Watch, Unwatch, Twins, Index, Save, Demo, Compact}
use Rattle.edit_commands.specs.Compacting.{compacted_line, compacted_state, is_within}
use Rattle.edit_commands.proofs.TagLaws.{tag_line_there, tagged_there, unless_refused}
use Rattle.edit_commands.proofs.EditLaws.{edited_there, line_there}
use Rattle.filter_seat.specs.SavedFilters.{dropped_in, is_kept, joined_with, kept_at, place_of}
use Rattle.search_commands.proofs.DemoLaws.{unless_said, unless_shown}
use Rattle.search_commands.specs.Demo.{adding}
use Rattle.intake_commands.specs.Importing.{intake, line_with, none_taken, state_with, the_new}
use Rattle.report_commands.specs.Classifying.{state_by, text_by}
use Rattle.shell_commands.proofs.GrowLaws.{adding_keeps, items_keep}
use Rattle.shell_commands.specs.Refused.{IsError}
use Rattle.shell_commands.specs.Tasks.{command_work, order_work, tasks}
use Rattle.game_filter.proofs.Searches.{length-searched}
use Rattle.game_filter.specs.Filter.{intersection, union}
use Rattle.game_filter.specs.declared.op.Op.TheVariants.{Ignore}
use Rattle.search_commands.specs.Searching.{find_after}
use Rattle.index_commands.specs.Indexing.{index_line, is_too_big, too_big_line}
use Rattle.pos_index.specs.Hits.{entries_of}
use Rattle.shell_state.specs.Stands.{index_of}
use Rattle.shell_state.specs.Lines.{game_line, filter_line, hit_lines, hits_text, name_line, no_filter_line, line_of}
use Rattle.shell_state.specs.Refusing.{refusal_line, refusal_of}
use Rattle.shell_state.specs.Slots.{Slot, slot_at}
use Rattle.shell_state.specs.Slots.Slot.{empty, idle, shows}
use Rattle.shell_state.specs.State.{State, with_filter, with_game, with_seat, games_of, with_index}
use Rattle.shell_state.specs.declared.refusing.Refusal.{Refusal}
use Rattle.shell_state.specs.declared.refusing.Refusal.TheVariants.{Full}
use Rattle.view_commands.specs.Views.{left, showing, own_slot, unwatch_line, watch_line, with_slot}
use Rattle.view_commands.specs.declared.window.Window.{Window}
use Rattle.base_core.specs.Edits.{tagged}
use Rattle.base_core.specs.Compacted.{compacted}
use Rattle.base_core.specs.declared.fault.What.TheVariants.{File}

-- ---- texts that are no error lines

-- A text that begins with another letter.
not_error : (c : ℕ) (xs : List ℕ) → nat_eq c 101 ≡ false → IsError (c ∷ xs) → ⊥
not_error c xs other is =
    let e : c ∷ xs ≡ 101 ∷ (codes "rror: " ++ is.0) = is.1 in
    let head : c ≡ 101 = cc e in
    let same : true ≡ false = subst (λ (n : ℕ). nat_eq n 101 ≡ false) head other in
    true≢false same

-- A number begins with a digit.
record Begins (n : ℕ) (text : List ℕ) : Type 0 where
  first : ℕ
  later : List ℕ
  is : text ≡ first ∷ later
  digit : first < 58

begins : (n : ℕ) → n < 2 ^ 64 → Begins n (decimal n)
begins = decimal_by_steps Begins
    (λ n small. record { first = 48 + n; later = []; is = refl; digit = omega arith })
    (λ n digits many front. record { first = front.first; later = front.later ++ (48 + n % 10) ∷ []; is = ap (λ (l : List ℕ). l ++ (48 + n % 10) ∷ []) front.is; digit = front.digit })

no_number : (n : ℕ) (rest more : List ℕ) → n < 2 ^ 64 → decimal n ++ rest ≡ 101 ∷ more → ⊥
no_number n rest more small is =
    let b = begins n small in
    let whole : b.first ∷ b.later ++ rest ≡ 101 ∷ more = sym (ap (λ (l : List ℕ). l ++ rest) b.is) ∙ is in
    let e : b.first ≡ 101 = cc in
    absurd (omega (arith, e, b.digit))

front : (a b c d e f : List ℕ) → ((((a ++ b) ++ c) ++ d) ++ e) ++ f ≡ a ++ ((((b ++ c) ++ d) ++ e) ++ f)
front a b c d e f =
    ap (λ (l : List ℕ). ((l ++ d) ++ e) ++ f) (append_assoc a b c) ∙ ap (λ (l : List ℕ). (l ++ e) ++ f) (append_assoc a (b ++ c) d)
    ∙ ap (λ (l : List ℕ). l ++ f) (append_assoc a ((b ++ c) ++ d) e) ∙ append_assoc a (((b ++ c) ++ d) ++ e) f

no_hits : (n : ℕ) (plies all : List (Option ℕ)) → n + length plies < 2 ^ 64 → IsError (hit_lines n plies ++ filter_line all) → ⊥
no_hits n [] all few is = not_error 102 _ refl is
no_hits n (Some ply ∷ plies) all few is =
    let whole = front (decimal n) (codes " ") (decimal ply) (10 ∷ []) (hit_lines (n + 1) plies) (filter_line all) in
    no_number n ((((codes " " ++ decimal ply) ++ (10 ∷ [])) ++ hit_lines (n + 1) plies) ++ filter_line all) (codes "rror: " ++ is.0) (omega (arith, few)) (sym whole ∙ is.1)
no_hits n (None ∷ plies) all few is = no_hits (n + 1) plies all (omega (arith, few)) is

found_so : (s : State) (plies : List (Option ℕ)) → length plies < 2 ^ 64 → IsError (hits_text plies) → ⊥
found_so s plies few is = no_hits 0 plies plies (omega (arith, few)) is

-- ---- each command

kept_none : (room : Bool) (s : State) (name : List ℕ) → IsError (if room then name_line (codes "kept ") name else line_of (codes "error: full filters"))
    → with_seat s (record s.seat { saved = if room then s.seat.saved ++ (record { name = name; plies = s.seat.filter }) ∷ [] else s.seat.saved }) ≡ s
kept_none true s name is = absurd (not_error 107 _ refl is)
kept_none false s name is = refl

kept_so : (place : Option ℕ) (s : State) (name : List ℕ) → IsError (if is_some place || nat_lt (length s.seat.saved) 8 then name_line (codes "kept ") name else line_of (codes "error: full filters"))
    → with_seat s (record s.seat { saved = kept_at s.seat.saved (record { name = name; plies = s.seat.filter }) place }) ≡ s
kept_so (Some place) s name is = absurd (not_error 107 _ refl is)
kept_so None s name is = kept_none (nat_lt (length s.seat.saved) 8) s name is

joined_so : (place : Option ℕ) (join : List (Option ℕ) → List (Option ℕ) → List (Option ℕ)) (s : State) (name : List ℕ)
    → IsError (if is_some place then filter_line (joined_with join s.seat.filter (option_and_then (λ p. option_map (λ (f : SavedFilter). f.plies) (slice_get s.seat.saved p)) place)) else no_filter_line name)
    → with_filter s (joined_with join s.seat.filter (option_and_then (λ p. option_map (λ (f : SavedFilter). f.plies) (slice_get s.seat.saved p)) place)) ≡ s
joined_so (Some place) join s name is = absurd (not_error 102 _ refl is)
joined_so None join s name is = refl

dropped_so : (place : Option ℕ) (s : State) (name : List ℕ) → IsError (if is_some place then name_line (codes "dropped ") name else no_filter_line name) → with_seat s (record s.seat { saved = option_map_or (λ p. take p s.seat.saved ++ drop (p + 1) s.seat.saved) place s.seat.saved }) ≡ s
dropped_so (Some place) s name is = absurd (not_error 100 _ refl is)
dropped_so None s name is = refl

dropped-so : (s : State) (name : List ℕ) → IsError (if is_kept s.seat.saved name then name_line (codes "dropped ") name else no_filter_line name) → with_seat s (record s.seat { saved = dropped_in s.seat.saved name }) ≡ s
unfolding dropped_in
dropped-so s name is = dropped_so (place_of s.seat.saved name) s name is

edited_so : (c : ℕ) (words : List ℕ) (edit : Base → Base) (game : ℕ) (s : State) (held : Option Held) → nat_eq c 101 ≡ false → IsError (line_there (c ∷ words) game held) → edited_there edit s held ≡ s
edited_so c words edit game s (Some held) other is = absurd (not_error c _ other is)
edited_so c words edit game s None other is = refl

tagged_by : (line : Option (List ℕ)) (game : ℕ) (s : State) (base : Base) → IsError (unwrap_or line (game_line (codes "tagged ") game)) → unless_refused line s base ≡ s
tagged_by (Some line) game s base is = refl
tagged_by None game s base is = absurd (not_error 116 _ refl is)

tagged_so : (game : ℕ) (edit : TagEdit) (s : State) (held : Option Held) → IsError (tag_line_there game edit s held) → tagged_there game edit s held ≡ s
tagged_so game edit s (Some held) is = tagged_by (refusal_of s.shared.base (edited held.head edit) held.game) game s (tagged game edit s.shared.base) is
tagged_so game edit s None is = refl

indexed_so : (big : Bool) (s : State) (depth : ℕ)
    → IsError (if big then too_big_line else index_line depth (entries_of (index_of (games_of s) depth).rows)) → (if big then s else with_index s (Some depth)) ≡ s
indexed_so true s depth is = refl
indexed_so false s depth is = absurd (not_error 105 _ refl is)

compacted_so : (within : Bool) (s : State) → IsError (if within then compacted_line (length s.shared.base.games) (length (compacted s.shared.base).games) else refusal_line (Full File)) → (if within then compacted_state s else s) ≡ s
compacted_so true s is = absurd (not_error 99 _ refl is)
compacted_so false s is = refl

replaced_so : (s : State) (game : ℕ) (new : Result (Head × GameTree) (List ℕ)) → IsError (line_with game new) → state_with s game new ≡ s
replaced_so s game (Ok new) is = absurd (not_error 114 _ refl is)
replaced_so s game (Err line) is = refl

classified_so : (s : State) (table : Result (List Opening) EcoFault) → IsError (text_by s table) → state_by s table ≡ s
classified_so s (Ok table) is = absurd (not_error 99 _ refl is)
classified_so s (Err fault) is = refl

-- A slot that stays as it is.
same_slot : (w : Window) (s : State) (number : ℕ) → with_slot w s number (own_slot w s number) ≡ s
same_slot w s number = by (nat_lt number w.count)
  where
    by : (b : Bool) → (if b then record s { slots = slice_set s.slots (w.first + number) (if b then slot_at s.slots (w.first + number) else empty) } else s) ≡ s
    by true = ap (λ (l : List Slot). record s { slots = l }) (set-get_or s.slots (w.first + number) empty)
    by false = refl

slot_stays : (w : Window) (s : State) (number : ℕ) (slot : Slot) → own_slot w s number ≡ slot → with_slot w s number slot ≡ s
slot_stays w s number slot is = ap (with_slot w s number) (sym is) ∙ same_slot w s number

watch_refused : (w : Window) (s : State) (number : ℕ) (board : Packed) (slot : Slot) → own_slot w s number ≡ slot → IsError (watch_line number slot) → with_slot w s number (showing board slot) ≡ s
watch_refused w s number board empty same is = slot_stays w s number empty same
watch_refused w s number board idle same is = absurd (not_error 119 _ refl is)
watch_refused w s number board (shows other) same is = absurd (not_error 119 _ refl is)

unwatch_refused : (w : Window) (s : State) (number : ℕ) (slot : Slot) → own_slot w s number ≡ slot → IsError (unwatch_line number slot) → with_slot w s number (left slot) ≡ s
unwatch_refused w s number empty same is = slot_stays w s number empty same
unwatch_refused w s number idle same is = slot_stays w s number idle same
unwatch_refused w s number (shows board) same is = absurd (not_error 117 _ refl is)

command_refused : (w : Window) (s : State) (command : Command) (body : List ℕ) → length s.seat.filter < 2 ^ 64 → IsError ((command_work w command body).text s) → ((word : List ℕ) → command ≡ Import word → ⊥)
    → ((seed games : ℕ) → command ≡ Demo seed games → ⊥) → (command_work w command body).after s ≡ s
command_refused w s (Find board side) body few is imports makes = absurd (found_so s (find_after s board side).seat.filter (rw (length-searched Ignore _ s.seat.filter) few) is)
command_refused w s (SearchPosition op query) body few is imports makes = absurd (not_error 102 _ refl is)
command_refused w s (SearchMaterial op query) body few is imports makes = absurd (not_error 102 _ refl is)
command_refused w s (SearchHeader op query) body few is imports makes = absurd (not_error 102 _ refl is)
command_refused w s Reset body few is imports makes = absurd (not_error 102 _ refl is)
command_refused w s Clear body few is imports makes = absurd (not_error 102 _ refl is)
command_refused w s Negate body few is imports makes = absurd (not_error 102 _ refl is)
command_refused w s (Restrict first last) body few is imports makes = absurd (not_error 102 _ refl is)
command_refused w s (Keep name) body few is imports makes = kept_so (place_of s.seat.saved name) s name is
command_refused w s (Take name) body few is imports makes = joined_so (place_of s.seat.saved name) (λ own other. other) s name is
command_refused w s (And name) body few is imports makes = joined_so (place_of s.seat.saved name) intersection s name is
command_refused w s (Or name) body few is imports makes = joined_so (place_of s.seat.saved name) union s name is
command_refused w s (Drop name) body few is imports makes = dropped-so s name is
command_refused w s (Import word) body few is imports makes = absurd (imports word refl)
command_refused w s (Replace game word) body few is imports makes = replaced_so s game (the_new s game body) is
command_refused w s (Eco word) body few is imports makes = classified_so s (table_of body) is
command_refused w s (Tag game edit) body few is imports makes = tagged_so game edit s (slice_get s.shared.base.games game) is
command_refused w s (Delete game) body few is imports makes = edited_so 100 (codes "eleted ") (deleted game) game s (slice_get s.shared.base.games game) refl is
command_refused w s (Undelete game) body few is imports makes = edited_so 117 (codes "ndeleted ") (undeleted game) game s (slice_get s.shared.base.games game) refl is
command_refused w s (Mark game bit on) body few is imports makes = edited_so 109 (codes "arked ") (marked game bit on) game s (slice_get s.shared.base.games game) refl is
command_refused w s (Watch slot board side) body few is imports makes = watch_refused w s slot (packed_of board side) (own_slot w s slot) refl is
command_refused w s (Unwatch slot) body few is imports makes = unwatch_refused w s slot (own_slot w s slot) refl is
command_refused w s (Twins depth) body few is imports makes = absurd (not_error 116 _ refl is)
command_refused w s (Index (Some depth)) body few is imports makes = indexed_so (is_too_big s depth) s depth is
command_refused w s (Index None) body few is imports makes = absurd (not_error 105 _ refl is)
command_refused w s Save body few is imports makes = absurd (not_error 115 _ refl is)
command_refused w s (Demo seed games) body few is imports makes = absurd (makes seed games refl)
command_refused w s Compact body few is imports makes = compacted_so (is_within s.shared.base) s is
command_refused w s _ body few is imports makes = refl

order_refused : (w : Window) (s : State) (order : Order) (body : List ℕ) → length s.seat.filter < 2 ^ 64 → IsError ((order_work w order body).text s) → ((word : List ℕ) → order ≡ Ok (Import word) → ⊥)
    → ((seed games : ℕ) → order ≡ Ok (Demo seed games) → ⊥) → (order_work w order body).after s ≡ s
order_refused w s (Ok command) body few is imports makes =
    command_refused w s command body few is (λ word same. imports word (ap (λ (x : Command). Ok x) same)) (λ seed games same. makes seed games (ap (λ (x : Command). Ok x) same))
order_refused w s (Err fault) body few is imports makes = refl

pub refused : (w : Window) (s : State) (t : Task) → length s.seat.filter < 2 ^ 64 → IsError ((tasks w).text s t) → ((word : List ℕ) → t.order ≡ Ok (Import word) → ⊥) → ((seed games : ℕ) → t.order ≡ Ok (Demo seed games) → ⊥) → (tasks w).after s t ≡ s
refused w s t few is imports makes = order_refused w s t.order t.body few is imports makes

-- ---- games are added behind the others

-- Games came in behind the others, and where none did the state is as it was.
record Adds (old new : State) : Type 0 where
  more : List Held
  is : new.shared.base.games ≡ old.shared.base.games ++ more
  still : more ≡ [] → new ≡ old

none_added : (s : State) → Adds s s
none_added s = record { more = []; is = sym (append-nil s.shared.base.games); still = λ none. refl }

none_both : (first later : List Held) → first ++ later ≡ [] → (first ≡ []) × (later ≡ [])
none_both [] later none = (refl, none)
none_both (held ∷ first) later none = absurd cc

adds_on : (s s' s'' : State) → Adds s s' → Adds s' s'' → Adds s s''
adds_on s s' s'' first later = record {
  more = first.more ++ later.more;
  is = later.is ∙ ap (λ (l : List Held). l ++ later.more) first.is ∙ append_assoc s.shared.base.games first.more later.more;
  still = λ none. let both = none_both first.more later.more none in later.still both.1 ∙ first.still both.0;
}

added_games : (head : Head) (game : GameTree) (base : Base) → (added head game base).games ≡ base.games ++ held_of head game ∷ []
unfolding added
added_games head game base = refl

one_there : (held : Held) → held ∷ [] ≡ [] → ⊥
one_there held none = cc

one_added : (s : State) (head : Head) (game : GameTree) → Adds s (with_game s head game)
one_added s head game = record { more = held_of head game ∷ []; is = added_games head game s.shared.base; still = λ none. absurd (one_there (held_of head game) none) }

behind : (s t : State) (head : Head) (game : GameTree) → Adds s t → Adds s (with_game t head game)
behind s t head game first = adds_on s t (with_game t head game) first (one_added t head game)

items_add : (s : State) (items : List Item) → Adds s (after_all intake (none_taken s) items).state
items_add s items = items_keep (Adds s) (behind s) (none_taken s) items (none_added s)

adding_adds : (s : State) (seed games : ℕ) → Adds s (adding s seed games).state
adding_adds s seed games = adding_keeps (Adds s) (behind s) s seed games (none_added s)

pub imported : (w : Window) (s : State) (word body : List ℕ) → (more : List Held) × (((tasks w).after s (record { order = Ok (Import word); body = body })).shared.base.games ≡ s.shared.base.games ++ more)
imported w s word body = let adds = items_add s (items_of body) in (adds.more, adds.is)

shown_games : (why : Option Refusal) (s : State) → (unless_shown why s).shared.base.games ≡ s.shared.base.games
shown_games (Some why) s = refl
shown_games None s = refl

pub made : (w : Window) (s : State) (seed games : ℕ) (body : List ℕ) → (more : List Held) × (((tasks w).after s (record { order = Ok (Demo seed games); body = body })).shared.base.games ≡ s.shared.base.games ++ more)
made w s seed games body = let adds = adding_adds s seed games in (adds.more, shown_games (adding s seed games).refused (adding s seed games).state ∙ adds.is)

-- ---- where no game is added

no_more : (games more : List Held) → games ++ more ≡ games → more ≡ []
no_more [] more is = is
no_more (held ∷ games) more is =
    let rest : games ++ more ≡ games = cc in
    no_more games more rest

same_then : (s s' : State) → Adds s s' → s'.shared.base.games ≡ s.shared.base.games → s' ≡ s
same_then s s' adds same = adds.still (no_more s.shared.base.games adds.more (sym adds.is ∙ same))

pub imported_none : (w : Window) (s : State) (word body : List ℕ) → ((tasks w).after s (record { order = Ok (Import word); body = body })).shared.base.games ≡ s.shared.base.games → (tasks w).after s (record { order = Ok (Import word); body = body }) ≡ s
imported_none w s word body same = same_then s (after_all intake (none_taken s) (items_of body)).state (items_add s (items_of body)) same

ended_so : (why : Option Refusal) (games plies : ℕ) (s s' : State) → Adds s s' → IsError (unless_said why games plies s') → (unless_shown why s').shared.base.games ≡ s.shared.base.games → unless_shown why s' ≡ s
ended_so (Some why) games plies s s' adds is same = same_then s s' adds same
ended_so None games plies s s' adds is same = absurd (not_error 100 _ refl is)

pub made_none : (w : Window) (s : State) (seed games : ℕ) (body : List ℕ) → IsError ((tasks w).text s (record { order = Ok (Demo seed games); body = body }))
    → ((tasks w).after s (record { order = Ok (Demo seed games); body = body })).shared.base.games ≡ s.shared.base.games → (tasks w).after s (record { order = Ok (Demo seed games); body = body }) ≡ s
made_none w s seed games body is same = ended_so (adding s seed games).refused games (adding s seed games).plies s (adding s seed games).state (adding_adds s seed games) is same
