-- Laws of a game that is added, and of a game that is placed in the place of another one.
use Rattle.std.proofs.Common.{◌≡◌, ℕ, List, length, Option, Some, sym, subst, ◌+◌, ◌++◌, ap, ◌∙◌, true, refl, [], ◌∷◌, map, arith, ◌<◌, ◌≤◌, nat_lt, All, get_or, Ok, Err, Bool, false, None, option_map, ap₂}
use Rattle.std.proofs.lemmas.Bool.{le-ltb}
use Rattle.std.proofs.lemmas.List.{length-append, length-map, map-append}
use Rattle.base_core.specs.Edited.{first_full, CanPlace, Places, WhyNotPlaced, WhyNotReplaced}
use Rattle.base_core.specs.Edits.{end_with, names_with, added, held_of}
use Rattle.base_core.specs.Means.{HoldsNames}
use Rattle.base_core.specs.Represents.{Kept, IsSound}
use Rattle.base_core.specs.declared.fault.EditError.{EditError}
use Rattle.base_core.specs.declared.fault.EditError.TheVariants as edit
use Rattle.base_core.specs.declared.fault.What.{What}
use Rattle.base_files.specs.Seen.{Seen, appended}
use Rattle.base_files.specs.Told.{TellsLength, adds}
use Rattle.base_files.specs.declared.faults.Stop.TheVariants as stop
use Rattle.block_store.specs.Placing.{IsEnd, padded}
use Rattle.filter_seat.proofs.SavedLaws.{all_with_game}
use Rattle.filter_seat.specs.SavedFilters.{without_last}
use Rattle.filter_seat.specs.declared.saved.SavedFilter.{SavedFilter}
use Rattle.game_codec.specs.Written.{written_record}
use Rattle.game_tree.specs.Game.{GameTree}
use Rattle.game_tree.specs.declared.head.Head.{Head}
use Rattle.pos_index.specs.Hits.{Index, Place, places_of, row_of}
use Rattle.std.specs.Prelude.{IfSome, if◌then◌else◌}
use Rattle.base_core.specs.Base.{Base, Held}
use Rattle.shell_state.specs.declared.refusing.Refusal.TheVariants.{FullIndex}
use Rattle.shell_state.specs.Indexing.{index_with}
use Rattle.shell_state.proofs.IndexLaws.{depth_is, index_is}
use Rattle.shell_state.proofs.CarryLaws.{beside_grown}
use Rattle.shell_state.proofs.EditedLaws.{kept-why, none_refused, refused_so, why_not_failed}
use Rattle.shell_state.proofs.Quietly.{filter_is, held_by, saved_is, seats_are}
use Rattle.shell_state.proofs.TableLaws.{hits_behind, in_mapped, slots_follow}
use Rattle.shell_state.specs.Adding.{IsAdded, IsNotAdded}
use Rattle.shell_state.specs.Ends.{IsDevice, IsThere, refused_edit}
use Rattle.shell_state.specs.Refusing.{not_added, index_is_full, why_not}
use Rattle.shell_state.specs.Hits.{AreHits}
use Rattle.shell_state.specs.Slots.{HitTable, table_in, tables_in}
use Rattle.shell_state.specs.Stands.{Fits, Stands, Holding, Tables, depth_of, index_of, tables_by}
use Rattle.shell_state.specs.State.{State, Shared}
use Rattle.shell_state.specs.declared.halt.Halt.{Halt}
use Rattle.shell_state.specs.declared.halt.Halt.TheVariants as halt
use Rattle.shell_state.specs.declared.refusing.Refusal.{Refusal}
use Rattle.tree_live.specs.Slots.{in_slot}
use Rattle.tree_live.specs.Watching.{Watched, with_game as with_entry}
use Rattle.tree_live.specs.declared.entry.Entry.{Entry}
use Rattle.tree_rows.specs.declared.hit.GameHit.{GameHit}

-- ---- what is told

-- The games file ends where the base does.
pub ends_there : (told : Option (List ℕ)) (games : List ℕ) (end : ℕ) → told ≡ Some games → TellsLength told end → length games ≡ end
ends_there told games end same is =
    let P : Option (List ℕ) → Type 0 = λ o. TellsLength o end in
    let e : end ≡ length games = subst P same is in
    sym e

-- Bytes were added to it.
pub told_more : (seen seen' : Seen) (games more : List ℕ) → seen.games ≡ Some games → seen' ≡ appended more seen → seen'.games ≡ Some (games ++ more)
told_more seen seen' games more told is = ap (λ (x : Seen). x.games) is ∙ ap (λ (g : Option (List ℕ)). adds g more) told

-- ---- the index

-- It is full or not in the state too.
pub index_open : (holding : Holding) (seen : Seen) (s : State) (full : Bool) → Stands holding seen s → index_is_full (depth_of holding.tables.index) (length holding.kept.entries + 1) ≡ full
    → index_is_full s.shared.index (length s.shared.base.games + 1) ≡ full
index_open holding seen s full st is =
    ap₂ (λ (depth : Option ℕ) (games : ℕ). index_is_full depth (games + 1)) (sym (depth_is holding seen s st)) (sym st.base.count) ∙ is

-- Where it has room, a game is added unless something else is against it.
open_index : (shared : Shared) (head : Head) (game : GameTree) → index_is_full shared.index (length shared.base.games + 1) ≡ false
    → not_added shared head game ≡ why_not shared.base (length shared.base.games + 1) head game
open_index shared head game roomy = ap (λ (b : Bool). if b then Some FullIndex else why_not shared.base (length shared.base.games + 1) head game) roomy

full_index : (shared : Shared) (head : Head) (game : GameTree) → index_is_full shared.index (length shared.base.games + 1) ≡ true → not_added shared head game ≡ Some FullIndex
full_index shared head game full = ap (λ (b : Bool). if b then Some FullIndex else why_not shared.base (length shared.base.games + 1) head game) full

-- With one game more it is that of the games with it.
games_added : (head : Head) (game : GameTree) (base : Base) → map (λ (held : Held). held.game) (added head game base).games ≡ map (λ (held : Held). held.game) base.games ++ game ∷ []
unfolding added
games_added head game base = map-append (λ (held : Held). held.game) base.games (held_of head game ∷ [])

index_added : (head : Head) (game : GameTree) (base : Base) (depth : Option ℕ)
    → option_map (index_with game) (option_map (index_of (map (λ (held : Held). held.game) base.games)) depth)
    ≡ option_map (index_of (map (λ (held : Held). held.game) (added head game base).games)) depth
index_added head game base None = refl
index_added head game base (Some depth) =
    let games : List GameTree = map (λ (held : Held). held.game) base.games in
    ap (λ (rows : List (List Place)). Some (record { depth = depth; rows = rows }))
    (sym (ap (map (row_of depth)) (map-append (λ (g : GameTree). Some g) games (game ∷ [])) ∙ map-append (row_of depth) (map Some games) (Some game ∷ []))
    ∙ ap (λ (all : List GameTree). map (row_of depth) (map Some all)) (sym (games_added head game base)))

-- And it has a row for each.
pub index_grows : (index index' : Option Index) (games entries : ℕ) (game : GameTree) → index' ≡ option_map (index_with game) index → entries ≡ games + 1
    → IfSome index (λ (x : Index). length x.rows ≡ games) → IfSome index' (λ (x : Index). length x.rows ≡ entries)
index_grows index index' games entries game grown count fits =
    subst (λ (i : Option Index). IfSome i (λ (x : Index). length x.rows ≡ entries)) (sym grown) (one_row index games entries game count fits)
  where
    one_row : (index : Option Index) (games entries : ℕ) (game : GameTree) → entries ≡ games + 1 → IfSome index (λ (x : Index). length x.rows ≡ games)
        → IfSome (option_map (index_with game) index) (λ (x : Index). length x.rows ≡ entries)
    one_row None games entries game count fits = tt
    one_row (Some index) games entries game count fits = length-append index.rows (places_of index.depth game ∷ []) ∙ omega (arith, fits, count)

-- The game gets the number behind its last row.
pub index_last : (index : Option Index) (games number : ℕ) → number ≡ games → IfSome index (λ (x : Index). length x.rows ≡ games) → IfSome index (λ (x : Index). number ≡ length x.rows)
index_last None games number is fits = tt
index_last (Some index) games number is fits = is ∙ sym fits

-- There is no room in it.
pub game_shut_out : (holding : Holding) (seen : Seen) (s : State) (head : Head) (game : GameTree) → Stands holding seen s
    → index_is_full (depth_of holding.tables.index) (length holding.kept.entries + 1) ≡ true → IsNotAdded holding seen s head game FullIndex
game_shut_out holding seen s head game st full = record { stands = st; refused = full_index s.shared head game (index_open holding seen s true st full) }

-- ---- a game that is added

pub game_added : (old new : Kept) (tables tables' : Tables) (filter filter' : List (Option ℕ)) (saved saved' : List SavedFilter) (seen seen' : Seen) (s : State) (head : Head) (game : GameTree) (number : ℕ)
    → Stands (held_by old tables filter saved) seen s → IsEnd old.end seen → Places (written_record head.tags game) (added head game) old new
    → CanPlace (length (written_record head.tags game)) (first_full (length old.entries + 1) (names_with head old.names) (end_with head game old.end))
    → seen' ≡ appended (padded old.end (written_record head.tags game)) seen → new.unsaved ≡ true → HoldsNames new.names old.names
    → filter' ≡ filter ++ Some 0 ∷ [] → saved' ≡ map without_last saved → index_is_full (depth_of tables.index) (length old.entries + 1) ≡ false
    → tables' ≡ tables_by s.shared.index s.slots (added head game s.shared.base).games → number ≡ length old.entries → IsAdded (held_by new tables' filter' saved') seen' s head game number
game_added old new tables tables' filter filter' saved saved' seen seen' s head game number st ends places room is unsaved names put left roomy grown last =
    let bytes : List ℕ = padded old.end (written_record head.tags game) in
    let more : length old.entries + 1 ≡ length s.shared.base.games + 1 = ap (λ (n : ℕ). n + 1) st.base.count in
    record {
      stands = record {
        games = st.games ++ bytes;
        told = told_more seen seen' st.games bytes st.told is;
        base = places st.games s.shared.base (ends_there seen.games st.games old.end st.told ends.told) st.base;
        seat = seats_are (record { filter = filter'; saved = saved' }) _ (put ∙ ap (λ (f : List (Option ℕ)). f ++ Some 0 ∷ []) (filter_is st)) (left ∙ ap (map without_last) (saved_is st));
        unsaved = unsaved;
        carried = beside_grown old new seen seen' bytes s.shared.unsaved s.shared.carried is names st.carried;
        tables = grown;
        fresh = ap (λ (x : Seen). x.fresh) is ∙ st.fresh;
      };
      free = open_index s.shared head game (index_open (held_by old tables filter saved) seen s false st roomy)
          ∙ (sym (kept-why old st.games s.shared.base (length old.entries + 1) (length s.shared.base.games + 1) head game st.base more) ∙ none_refused _ _ room);
      last = last ∙ st.base.count;
    }

-- The tables with it.
pub tables_grow : (holding : Holding) (seen : Seen) (s : State) (head : Head) (game : GameTree) (index' : Option Index) (number : ℕ) (hits : List (Option GameHit)) (watches watches' : List (Option Watched))
    → Stands holding seen s → number ≡ length holding.kept.entries → index' ≡ option_map (index_with game) holding.tables.index → tables_in watches ≡ holding.tables.hits
    → length watches' ≡ length watches → AreHits watches head game hits
    → ((k : ℕ) → in_slot watches' k ≡ option_map (λ (w : Watched). record w { games = with_entry number (record { hit = in_slot hits k; is_in = false }) w.games }) (in_slot watches k))
    → record { index = index'; hits = tables_in watches' } ≡ tables_by s.shared.index s.slots (added head game s.shared.base).games
unfolding added
tables_grow holding seen s head game index' number hits watches watches' st last grown held count are follow =
    ap₂ (λ (x : Option Index) (l : List (Option HitTable)). record { index = x; hits = l })
    (grown ∙ ap (option_map (index_with game)) (index_is st) ∙ index_added head game s.shared.base s.shared.index)
    (slots_follow number head game hits watches watches' s.shared.base.games (s.shared.base.games ++ held_of head game ∷ []) s.slots count are follow
    (λ query. hits_behind query (held_of head game) s.shared.base.games number (last ∙ st.base.count))
    (held ∙ ap (λ (t : Tables). t.hits) st.tables))

-- There is room for it in the slots.
pub few_before : (new : Kept) (games : ℕ) → IsSound new → length new.entries ≡ games + 1 → games < 16777214
few_before new games sound count = omega (arith, sound.count, sound.header.games, count)

pub room_for : (number : ℕ) (watches : List (Option Watched)) (games : ℕ) → number ≡ games → games < 16777214
    → ((k : ℕ) → IfSome (in_slot (tables_in watches) k) (λ (table : HitTable). length table.hits ≡ games)) → (k : ℕ) → IfSome (in_slot watches k) (λ (watch : Watched). (number ≤ length watch.games) × (number < 16777214))
room_for number watches games last few fits = λ k.
    by (in_slot watches k) (subst (λ (o : Option HitTable). IfSome o (λ (table : HitTable). length table.hits ≡ games)) (in_mapped table_in watches k) (fits k))
  where
    by : (watch : Option Watched) → IfSome (option_map table_in watch) (λ (table : HitTable). length table.hits ≡ games) → IfSome watch (λ (w : Watched). (number ≤ length w.games) × (number < 16777214))
    by None is = tt
    by (Some watch) is = (omega (arith, is, last, length-map watch.games (λ (e : Entry). e.hit)), omega (arith, last, few))

-- It comes behind the others.
pub one_behind : (number games entries : ℕ) → number ≡ games → entries ≡ games + 1 → (n : ℕ) → n ≡ games → (if nat_lt number n then n else n + 1) ≡ entries
one_behind number games entries last count n is =
    let test : nat_lt number n ≡ false = le-ltb number n (omega (arith, last, is)) in
    rw test (omega (arith, is, count))

-- There is room for it in the filters.
pub filter_short : (new : Kept) (filter : List (Option ℕ)) (games : ℕ) → IsSound new → length new.entries ≡ games + 1 → length filter ≡ games → length filter < 4294967295
filter_short new filter games sound count long = omega (arith, sound.count, sound.header.games, count, long)

pub all_short : (new : Kept) (saved lent : List SavedFilter) (games : ℕ) → IsSound new → length new.entries ≡ games + 1 → lent ≡ saved → All (λ (f : SavedFilter). length f.plies ≡ games) saved
    → All (λ (f : SavedFilter). length f.plies < 4294967295) lent
all_short new saved lent games sound count same fits =
    let P : List SavedFilter → Type 0 = λ l. All (λ (f : SavedFilter). length f.plies < 4294967295) l in
    let below : All (λ (f : SavedFilter). length f.plies < 4294967295) saved = λ k d within. filter_short new (get_or saved k d).plies games sound count (fits k d within) in
    subst P (sym same) below

-- The filters fit with it.
pub add_fits : (old new : Kept) (tables tables' : Tables) (filter filter' : List (Option ℕ)) (saved saved' : List SavedFilter) → length new.entries ≡ length old.entries + 1 → filter' ≡ filter ++ Some 0 ∷ [] → saved' ≡ map without_last saved
    → Fits (held_by old tables filter saved) → Fits (held_by new tables' filter' saved')
add_fits old new tables tables' filter filter' saved saved' count put left fits =
    let P : List SavedFilter → Type 0 = λ l. All (λ (f : SavedFilter). length f.plies ≡ length new.entries) l in
    let Q : ℕ → Type 0 = λ n. All (λ (f : SavedFilter). length f.plies ≡ n) (map without_last saved) in
    let long : length filter' ≡ length filter + 1 = ap (λ (f : List (Option ℕ)). length f) put ∙ length-append filter (Some 0 ∷ []) in
    record {
      filter = omega (arith, long, count, fits.filter);
      saved = subst P (sym left) (subst Q (sym count) (all_with_game (length old.entries) saved fits.saved));
    }

-- It is refused.
pub game_not_added : (old new : Kept) (tables : Tables) (filter : List (Option ℕ)) (saved : List SavedFilter) (seen seen' : Seen) (s : State) (head : Head) (game : GameTree) (e : EditError) (why : Refusal)
    → Stands (held_by old tables filter saved) seen s
    → WhyNotPlaced (length (written_record head.tags game)) (first_full (length old.entries + 1) (names_with head old.names) (end_with head game old.end)) e
    → refused_edit e ≡ Ok why → new ≡ old → index_is_full (depth_of tables.index) (length old.entries + 1) ≡ false → ((e ≡ edit.Failed → ⊥) → seen' ≡ seen) → IsNotAdded (held_by new tables filter saved) seen' s head game why
game_not_added old new tables filter saved seen seen' s head game e why st not ends same roomy files =
    let more : length old.entries + 1 ≡ length s.shared.base.games + 1 = ap (λ (n : ℕ). n + 1) st.base.count in
    let P : Kept → Type 0 = λ k. Stands (held_by k tables filter saved) seen' s in
    let Q : Seen → Type 0 = λ x. Stands (held_by old tables filter saved) x s in
    record {
      stands = subst P (sym same) (subst Q (sym (files (why_not_failed e why ends))) st);
      refused = open_index s.shared head game (index_open (held_by old tables filter saved) seen s false st roomy)
          ∙ (sym (kept-why old st.games s.shared.base (length old.entries + 1) (length s.shared.base.games + 1) head game st.base more) ∙ refused_so e _ _ why not ends);
    }

-- ---- how placing a game ends

-- An error of adding a game, or of putting one in the place of a game that is there, is none of a game that is not there or has changed.
pub placed_there : (e : EditError) (len : ℕ) (full : Option What) → WhyNotPlaced len full e → IsThere e
placed_there (edit.NoGame n) len full why = absurd why
placed_there (edit.TooLong n) len full why = tt
placed_there (edit.Full what) len full why = tt
placed_there (edit.Changed g sig found) len full why = tt
placed_there edit.Failed len full why = tt
placed_there edit.Memory len full why = tt

pub placed_so : (e : EditError) (kept : Kept) (i len : ℕ) (full : Option What) → WhyNotReplaced kept i len full e → i < length kept.entries → WhyNotPlaced len full e
placed_so (edit.NoGame n) kept i len full why there = absurd (omega (arith, why.1, there))
placed_so (edit.TooLong n) kept i len full why there = why
placed_so (edit.Full what) kept i len full why there = why
placed_so (edit.Changed g sig found) kept i len full why there = why
placed_so edit.Failed kept i len full why there = why
placed_so edit.Memory kept i len full why there = why

-- It ends the command by a device alone.
pub edit_device : (e : EditError) (h : Halt) (len : ℕ) (full : Option What) → WhyNotPlaced len full e → refused_edit e ≡ Err h → IsDevice h
edit_device (edit.TooLong n) h len full why ends = absurd (cc)
edit_device (edit.Full what) h len full why ends = absurd (cc)
edit_device (edit.NoGame n) h len full why ends = absurd why
edit_device (edit.Changed g sig found) h len full why ends = absurd why
edit_device edit.Failed h len full why ends = let e : halt.Device stop.Files ≡ h = cc in subst IsDevice e tt
edit_device edit.Memory h len full why ends = let e : halt.Device stop.Memory ≡ h = cc in subst IsDevice e tt
