-- Laws of `show` and `export`.
use Rattle.std.proofs.Common.{◌≡◌, ◌≤◌, ℕ, List, length, Ok, refl, sym, ap, ◌∙◌, arith, subst, [], Option, Result, Err, OnOk, ◌<◌, true, None, Some, ◌+◌, ◌++◌, take, append-nil, drop, zero, suc, ◌∷◌, add-one}
use Rattle.std.proofs.lemmas.List.{take_all}
use Rattle.std.proofs.lemmas.Option.{slice_get_past, same_Some}
use Rattle.std.specs.Prelude.{IfErr, IsTrue, flat_map, is_some, slice_get, IfSome}
use Rattle.base_core.proofs.Lists.{get_some}
use Rattle.base_core.specs.Base.{Held, Base}
use Rattle.base_core.specs.GameAt.{IsGameAt, IsShown}
use Rattle.base_core.specs.Represents.{Kept, Represents}
use Rattle.base_files.proofs.Telling.{adds-append, adds-nil}
use Rattle.base_files.specs.Counters.{raised}
use Rattle.base_files.specs.Seen.{Seen}
use Rattle.base_files.specs.Told.{adds}
use Rattle.base_files.specs.declared.faults.Stop.TheVariants as stop
use Rattle.command_runs.proofs.Joining.{halted_all, halted_none, written_after, halted_after, halted_more, halted_unsure}
use Rattle.command_runs.specs.Endings.{Halted, Serves}
use Rattle.game_tree.specs.Game.{GameTree}
use Rattle.game_tree.specs.Legal.{IsLegalGame}
use Rattle.game_tree.specs.declared.head.Head.{Head}
use Rattle.index_entry.specs.declared.entry.Entry.{Entry}
use Rattle.pgn_write.specs.Layout.{layout}
use Rattle.pgn_write.specs.Pgn.{pgn_of}
use Rattle.pgn_write.specs.TagPairs.{tag_text, tags_of}
use Rattle.pgn_write.specs.Tokens.{tokens_of}
use Rattle.pos_index.specs.Hits.{rows_told}
use Rattle.shell_state.proofs.Causing.{fault_of_output, fault_of_device, broken_by_fault}
use Rattle.shell_state.proofs.PriceLaws.{filtered_looks, len_looks}
use Rattle.shell_state.proofs.Served.{line_serves}
use Rattle.shell_state.proofs.Unfinishing.{has_byte, unfinished_at, unfinished_more}
use Rattle.shell_state.specs.Ends.{IsOutput, IsDevice, IsFault}
use Rattle.shell_state.specs.Lines.{no_game_line, texts_from}
use Rattle.shell_state.specs.Passing.{len_if_in, len_in, filtered_len}
use Rattle.shell_state.specs.Stands.{Holding, Stands, Broken, Unfinished, len_at, looks_in}
use Rattle.shell_state.specs.State.{State}
use Rattle.shell_state.specs.Work.{works, Look}
use Rattle.shell_state.specs.declared.halt.Halt.{Halt}
use Rattle.shell_state.specs.declared.halt.Halt.TheVariants as halt
use Rattle.text_commands.proofs.TextLaws.{texts-more, texts-split}
use Rattle.text_commands.specs.Cuts.{GameEnds, GameCut, GamesEnd}
use Rattle.text_commands.specs.GameTexts.{IsTextOf, WritesTextOf, show_text, shown, game_text, exported_first, text_if_in, exported, ExportCut, exported_len, export_work, show_work}

no_files : (e : Halt) → IsOutput e → e ≡ halt.Device stop.Files → ⊥
no_files e output is = subst IsOutput is output

-- A game's text was written, or broken off.
pub game_written : {A : Type 0} (r : Result A Halt) (line text : List ℕ) (told told' : Option (List ℕ)) → line ≡ text → OnOk r (told' ≡ adds told line) → Halted [] line told told' → IfErr r IsOutput
    → GameEnds r text told told'
game_written (Ok x) line text told told' same written halted output = written ∙ ap (adds told) same
game_written (Err e) line text told told' same written halted output =
    let P : List ℕ → Type 0 = λ l. Halted [] l told told' in
    record { wrote = subst P same halted; whole = λ is. absurd (no_files e output is); fault = fault_of_output e output }

-- A game was not read.
pub game_unread : (e : Halt) (text : List ℕ) (told : Option (List ℕ)) → IsDevice e → GameCut e text told told
game_unread e text told device = record { wrote = halted_none text told; whole = λ is. refl; fault = fault_of_device e device }

-- A game that is out has no text.
pub game_out : (told : Option (List ℕ)) → told ≡ adds told []
game_out told = sym (adds-nil told)

-- `show` of a game that is there.
pub show_serves : {A : Type 0} (r : Result A Halt) (holding : Holding) (seen : Seen) (s : State) (i : ℕ) (told told' : Option (List ℕ)) → i < length holding.kept.entries → Stands holding seen s
    → ((held : Held) → slice_get s.shared.base.games i ≡ Some held → GameEnds r (game_text held) told told') → Serves works (Stands holding seen) Broken s (show_work i) told told' r
show_serves (Ok x) holding seen s i told told' below st ends =
    let held = get_some s.shared.base.games i (omega (arith, below, st.base.count)) in
    record { stands = st; written = ends held.0 held.1 ∙ ap (λ (h : Option Held). adds told (shown i h)) (sym held.1) }
show_serves (Err e) holding seen s i told told' below st ends =
    let held = get_some s.shared.base.games i (omega (arith, below, st.base.count)) in
    let cut : GameCut e (game_text held.0) told told' = ends held.0 held.1 in
    let P : Option Held → Type 0 = λ h. Halted [] (shown i h) told told' in
    record { wrote = subst P (sym held.1) cut.wrote; broken = broken_by_fault s (show_work i) e (show_text s i) told told' refl cut.whole cut.fault }

-- The text of one game more.
first_more : (i : ℕ) (plies : List (Option ℕ)) (games : List Held) (ply : Option ℕ) (held : Held) → slice_get plies i ≡ Some ply → slice_get games i ≡ Some held
    → exported_first (i + 1) plies games ≡ exported_first i plies games ++ text_if_in i ply held
first_more i plies games ply held p x = texts-more text_if_in i plies games ply held p x

pub export_more : (i : ℕ) (plies : List (Option ℕ)) (games : List Held) (ply : Option ℕ) (held : Held) (told taken taken' : Option (List ℕ)) → slice_get plies i ≡ Some ply → slice_get games i ≡ Some held
    → taken ≡ adds told (exported_first i plies games) → taken' ≡ adds taken (text_if_in i ply held) → taken' ≡ adds told (exported_first (i + 1) plies games)
export_more i plies games ply held told taken taken' p x before now =
    written_after (exported_first i plies games) (text_if_in i ply held) told taken taken' before now ∙ ap (adds told) (sym (first_more i plies games ply held p x))

-- No game more.
pub export_all : (i : ℕ) (plies : List (Option ℕ)) (games : List Held) (told taken : Option (List ℕ)) → length plies ≤ i → length games ≤ i → taken ≡ adds told (exported_first i plies games)
    → taken ≡ adds told (exported plies games)
export_all i plies games told taken all every before =
    before ∙ ap (λ (l : List (Option ℕ)). adds told (exported l (take i games))) (take_all i plies all) ∙ ap (λ (l : List Held). adds told (exported plies l)) (take_all i games every)

-- The text of a game that is in has a byte.
game_has_byte : (head : Head) (game : GameTree) → pgn_of head game ≡ [] → ⊥
unfolding pgn_of
game_has_byte head game none = has_byte (flat_map tag_text (tags_of head game)) 10 (layout (tokens_of game head.result) ++ 10 ∷ 10 ∷ []) none

in_has_byte : (i : ℕ) (ply : Option ℕ) (held : Held) → IsTrue (is_some ply) → text_if_in i ply held ≡ [] → ⊥
in_has_byte i (Some ply) held some none = game_has_byte held.head held.game none
in_has_byte i None held some none = absurd cc

-- The texts of the first games are a front part of all.
front_of_all : (count : ℕ) (plies : List (Option ℕ)) (games : List Held)
    → exported plies games ≡ exported_first count plies games ++ texts_from text_if_in (0 + count) (drop count plies) (drop count games)
front_of_all count plies games = texts-split text_if_in 0 count plies games

-- If nothing of it was written, all were not.
export_unfinished : (i : ℕ) (plies : List (Option ℕ)) (games : List Held) (ply : Option ℕ) (held : Held) (told taken : Option (List ℕ)) → slice_get plies i ≡ Some ply → slice_get games i ≡ Some held
    → taken ≡ adds told (exported_first i plies games) → IsTrue (is_some ply) → Unfinished true (exported plies games) told taken
export_unfinished i plies games ply held told taken p x before some =
    let front : List ℕ = exported_first i plies games in
    let text : List ℕ = text_if_in i ply held in
    let more : List ℕ = texts_from text_if_in (0 + (i + 1)) (drop (i + 1) plies) (drop (i + 1) games) in
    let all : exported plies games ≡ (front ++ text) ++ more = front_of_all (i + 1) plies games ∙ ap (λ (l : List ℕ). l ++ more) (first_more i plies games ply held p x) in
    let P : List ℕ → Type 0 = λ l. Unfinished true l told taken in
    subst P (sym all) (unfinished_more (front ++ text) more told taken (unfinished_at front text told taken before (in_has_byte i ply held some)))

-- A game's text was broken off behind those of the games before.
pub export_cut : (e : Halt) (i : ℕ) (plies : List (Option ℕ)) (games : List Held) (ply : Option ℕ) (held : Held) (told taken taken' : Option (List ℕ)) → slice_get plies i ≡ Some ply → slice_get games i ≡ Some held
    → taken ≡ adds told (exported_first i plies games) → GameCut e (text_if_in i ply held) taken taken' → IsTrue (is_some ply) → GamesEnd {A = Unit {0}} (Err e) plies games told taken'
export_cut e i plies games ply held told taken taken' p x before cut some =
    let front : List ℕ = exported_first i plies games in
    let whole : Halted (front ++ []) (front ++ text_if_in i ply held) told taken' = halted_after front [] (text_if_in i ply held) told taken taken' before cut.wrote in
    let P : List ℕ → Type 0 = λ l. Halted l (front ++ text_if_in i ply held) told taken' in
    let Q : List ℕ → Type 0 = λ l. Halted front l told taken' in (
      record { count = i; wrote = subst Q (sym (first_more i plies games ply held p x)) (subst P (append-nil front) whole); whole = λ is. cut.whole is ∙ before },
      cut.fault,
      λ is. export_unfinished i plies games ply held told taken' p x (cut.whole is ∙ before) some,
    )

-- `export`
pub export_serves : {A : Type 0} (r : Result A Halt) (holding : Holding) (seen : Seen) (s : State) (told told' : Option (List ℕ)) → Stands holding seen s
    → GamesEnd r s.seat.filter s.shared.base.games told told' → Serves works (Stands holding seen) Broken s export_work told told' r
export_serves (Ok x) holding seen s told told' st ends = record { stands = st; written = ends }
export_serves (Err e) holding seen s told told' st ends =
    let cut = ends.0 in
    let n : ℕ = cut.count + 1 in
    let most : List ℕ = exported_first n s.seat.filter s.shared.base.games in
    let more : List ℕ = texts_from text_if_in (0 + n) (drop n s.seat.filter) (drop n s.shared.base.games) in
    let P : List ℕ → Type 0 = λ l. Halted [] l told told' in
    record {
      wrote = subst P (sym (front_of_all n s.seat.filter s.shared.base.games))
          (halted_more [] most more told told' (halted_unsure (exported_first cut.count s.seat.filter s.shared.base.games) most told told' cut.wrote));
      broken = broken_by_fault s export_work e (exported s.seat.filter s.shared.base.games) told told' refl ends.2 ends.1;
    }

pub export_breaks : {A : Type 0} (r : Result A Halt) (plies : List (Option ℕ)) (games : List Held) (told told' : Option (List ℕ)) → GamesEnd r plies games told told'
    → IfErr r (λ e. ExportCut plies games e told told')
export_breaks (Ok x) plies games told told' ends = tt
export_breaks (Err e) plies games told told' ends = ends.0

-- The bytes of the records of the games that are left, one game after the other.
filtered-suc : (i : ℕ) (plies : List (Option ℕ)) (entries : List Entry) (ply : Option ℕ) → i < length entries → slice_get plies i ≡ Some ply
    → exported_len (drop i plies) (drop i entries) ≡ len_if_in ply (len_at entries i) + exported_len (drop (suc i) plies) (drop (suc i) entries)
filtered-suc i [] entries ply below p = absurd cc
filtered-suc i (q ∷ plies) [] ply below p = absurd (omega (arith, below))
filtered-suc zero (q ∷ plies) (e ∷ entries) ply below p = ap (λ (r : Option ℕ). len_if_in r e.len + exported_len plies entries) (same_Some q ply p)
filtered-suc (suc i) (q ∷ plies) (e ∷ entries) ply below p = filtered-suc i plies entries ply (omega (arith, below)) p

pub filtered-more : (i : ℕ) (plies : List (Option ℕ)) (entries : List Entry) (ply : Option ℕ) → i < length entries → slice_get plies i ≡ Some ply
    → exported_len (drop i plies) (drop i entries) ≡ len_if_in ply (len_at entries i) + exported_len (drop (i + 1) plies) (drop (i + 1) entries)
filtered-more i plies entries ply below p =
    filtered-suc i plies entries ply below p
    ∙ ap (λ (k : ℕ). len_if_in ply (len_at entries i) + exported_len (drop k plies) (drop k entries)) (sym (add-one i))

-- What was asked so far and what is left to ask are as much as all.
pub rest_more : (first old new all rest cost left : ℕ) → raised first all ≤ raised old rest → raised old cost ≤ new → rest ≡ cost + left → raised first all ≤ raised new left
rest_more first old new all rest cost left before asked is = omega (arith, before, asked, is)

drop-past : {A : Type 0} (i : ℕ) (l : List A) → length l ≤ i → drop i l ≡ []
drop-past zero [] past = refl
drop-past zero (x ∷ l) past = absurd (omega (arith, past))
drop-past (suc i) [] past = refl
drop-past (suc i) (x ∷ l) past = drop-past i l (omega (arith, past))

pub none_left : (first new i : ℕ) (plies : List (Option ℕ)) (entries : List Entry) → length plies ≤ i → raised first (exported_len plies entries) ≤ raised new (exported_len (drop i plies) (drop i entries))
    → raised first (exported_len plies entries) ≤ new
none_left first new i plies entries past asked =
    let none : exported_len (drop i plies) (drop i entries) ≡ 0 = ap (λ (l : List (Option ℕ)). exported_len l (drop i entries)) (drop-past i plies past) in
    omega (arith, asked, none)

-- The text that was written is that of the game.
pub text_read : (games : Option (List ℕ)) (told : List ℕ) (kept : Kept) (all : Base) (held : Held) (i : ℕ) (head : Head) (game : GameTree) (text : List ℕ)
    → games ≡ Some told → Represents kept told all → slice_get all.games i ≡ Some held → IfSome games (λ bytes. IsGameAt kept bytes i head game) → text ≡ pgn_of head game → text ≡ game_text held
text_read games told kept all held i head game text same is at found written =
    let P : Option (List ℕ) → Type 0 = λ o. IfSome o (λ bytes. IsGameAt kept bytes i head game) in
    let here : IsGameAt kept told i head game = subst P same found in
    let both = here all held is at in
    written ∙ ap (λ (h : Head). pgn_of h game) both.0 ∙ ap (λ (g : GameTree). pgn_of held.head g) both.1

-- What the two ask is what they cost.
pub show_price : (holding : Holding) (game : ℕ) → len_at holding.kept.entries game ≡ len_in (λ (x : Look). x.len) (slice_get (looks_in holding) game)
show_price holding game = len_looks holding.kept.names (rows_told holding.tables.index) holding.kept.entries game

pub exported_price : (plies : List (Option ℕ)) (holding : Holding) → exported_len plies holding.kept.entries ≡ filtered_len (λ (x : Look). x.len) plies (looks_in holding)
exported_price plies holding = filtered_looks plies holding.kept.names (rows_told holding.tables.index) holding.kept.entries

-- `show` of a game that is not there, whose line was written or broken off.
pub no_game_serves : {A : Type 0} (r : Result A Halt) (holding : Holding) (seen : Seen) (s : State) (number : ℕ) (line : List ℕ) (told told' : Option (List ℕ)) → Stands holding seen s → length holding.kept.entries ≤ number
    → line ≡ no_game_line number → OnOk r (told' ≡ adds told line) → Halted [] line told told' → IfErr r IsOutput → Serves works (Stands holding seen) Broken s (show_work number) told told' r
no_game_serves r holding seen s number line told told' st past is written halted output =
    let text : line ≡ show_text s number = is ∙ ap (shown number) (sym (slice_get_past s.shared.base.games number (omega (arith, past, st.base.count)))) in
    line_serves r holding (show_work number) line seen s told told' st text written halted output

-- What was read of a kept game is what `show` may write of it.
pub is_text_of : (kept : Kept) (i : ℕ) (buf : List ℕ) (head : Head) (game : GameTree) (e : Entry) (text : List ℕ) → slice_get kept.entries i ≡ Some e → IsShown kept i buf head game → IsLegalGame game
    → text ≡ pgn_of head game → IsTextOf kept.names e text
is_text_of kept i buf head game e text at shown legal is =
    let read = shown e at in
    record {
      tags = read.0;
      game = game;
      legal = legal;
      is_sig = read.1.1.0;
      is_text = is ∙ ap (λ (h : Head). pgn_of h game) read.1.1.1;
    }

-- It was written.
pub writes_text : {A : Type 0} (r : Result A Halt) (kept : Kept) (i : ℕ) (line text : List ℕ) (told told' : Option (List ℕ)) → line ≡ text
    → ((e : Entry) → slice_get kept.entries i ≡ Some e → IsTextOf kept.names e text) → OnOk r (told' ≡ adds told line) → OnOk r (WritesTextOf kept i told told')
writes_text (Ok x) kept i line text told told' same is written = λ e at. (text, (is e at, written ∙ ap (adds told) same))
writes_text (Err e) kept i line text told told' same is written = tt

-- A game that is not there has no record.
pub none_there : (holding : Holding) (game : ℕ) → length holding.kept.entries ≤ game → len_in (λ (x : Look). x.len) (slice_get (looks_in holding) game) ≡ 0
none_there holding game past = sym (show_price holding game) ∙ ap (len_in (λ (e : Entry). e.len)) (slice_get_past holding.kept.entries game past)

-- It was put behind what waits.
pub text_waits : {A : Type 0} (r : Result A Halt) (text : List ℕ) (bytes : List ℕ) (told told' : Option (List ℕ)) (whole waits : List ℕ) → whole ≡ bytes ++ text → adds told' waits ≡ adds told whole → IfErr r IsOutput
    → GameEnds r text (adds told bytes) (adds told' waits)
text_waits (Ok x) text bytes told told' whole waits put kept output = kept ∙ ap (adds told) put ∙ adds-append told bytes text
text_waits (Err e) text bytes told told' whole waits put kept output =
    let all : adds told' waits ≡ adds (adds told bytes) text = kept ∙ ap (adds told) put ∙ adds-append told bytes text in
    record {
      wrote = halted_unsure text text (adds told bytes) (adds told' waits) (halted_all text (adds told bytes) (adds told' waits) all);
      whole = λ is. absurd (no_files e output is);
      fault = fault_of_output e output;
    }

-- It was not, and what waits is as before.
pub text_unread : (e : Halt) (text : List ℕ) (told : Option (List ℕ)) (bytes bytes' : List ℕ) → IsDevice e → bytes' ≡ bytes → GameCut e text (adds told bytes) (adds told bytes')
text_unread e text told bytes bytes' device same =
    let P : List ℕ → Type 0 = λ l. GameCut e text (adds told bytes) (adds told l) in
    subst P (sym same) (game_unread e text (adds told bytes) device)
