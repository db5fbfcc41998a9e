-- Laws of games that come in: one that is added, and one that is put in the place of another.
use Rattle.std.proofs.Common.{◌≡◌, ℕ, List, length, Option, Some, sym, subst, ◌+◌, ◌++◌, ap, ap₂, ◌∙◌, Bool, false, None, refl, true, [], ◌∷◌, map, arith, All, Ok, Err, ◌<◌, ◌≤◌, nat_lt, option_map}
use Rattle.std.specs.Prelude.{codes, if◌then◌else◌, IfSome}
use Rattle.base_core.specs.Base.{Base, Held}
use Rattle.base_core.specs.Edited.{first_full, CanPlace, Places, WhyNotPlaced}
use Rattle.base_core.specs.Edits.{changed_at, end_with, names_with, game_replaced, held_of}
use Rattle.base_core.specs.Means.{HoldsNames}
use Rattle.base_core.specs.Represents.{IsSound, Kept, Represents}
use Rattle.base_core.specs.declared.fault.EditError.{EditError}
use Rattle.base_files.specs.Seen.{Seen, appended}
use Rattle.block_store.specs.Placing.{IsEnd, padded}
use Rattle.game_codec.specs.Written.{written_record}
use Rattle.game_tree.specs.Game.{GameTree}
use Rattle.game_tree.specs.declared.head.Head.{Head}
use Rattle.pos_index.specs.Hits.{Index, Place, places_of, row_of}
use Rattle.pgn_read.specs.declared.item.Item.TheVariants.{Good}
use Rattle.filter_seat.proofs.SavedLaws.{all_to_start, length_to_start}
use Rattle.filter_seat.specs.SavedFilters.{kept_to_start, to_start}
use Rattle.filter_seat.specs.declared.saved.SavedFilter.{SavedFilter}
use Rattle.intake_commands.specs.Importing.{Intake, item_after, item_text, next_number, the_one, unless_line, state_with, line_with}
use Rattle.intake_commands.proofs.ByCase.{unless_not_added, added_line}
use Rattle.intake_commands.specs.Intakes.{Counted, not_added_line}
use Rattle.std.proofs.lemmas.Bool.{lt-ltb}
use Rattle.std.proofs.lemmas.List.{length-map, length-set, map-set}
use Rattle.shell_state.specs.Indexing.{index_with_at}
use Rattle.shell_state.proofs.IndexLaws.{index_is, put_games}
use Rattle.shell_state.proofs.AddingLaws.{ends_there, told_more}
use Rattle.shell_state.proofs.CarryLaws.{beside_grown}
use Rattle.shell_state.proofs.EditedLaws.{kept-refusal, lined_so, none_lined}
use Rattle.shell_state.proofs.Quietly.{filter_is, held_by, saved_is, seats_are}
use Rattle.shell_state.proofs.TableLaws.{hits_among, in_mapped, slots_follow}
use Rattle.shell_state.specs.Adding.{IsAdded, IsNotAdded}
use Rattle.shell_state.specs.Ends.{refused_line}
use Rattle.shell_state.specs.Hits.{AreHits}
use Rattle.shell_state.specs.Lines.{game_line}
use Rattle.shell_state.specs.Refusing.{refusal_of}
use Rattle.shell_state.specs.Slots.{HitTable, table_in, tables_in}
use Rattle.shell_state.specs.Stands.{Fits, Holding, Stands, Tables, index_of, tables_by}
use Rattle.shell_state.specs.State.{State}
use Rattle.shell_state.specs.declared.refusing.Refusal.{Refusal}
use Rattle.tree_live.specs.Slots.{in_slot}
use Rattle.tree_live.specs.Watching.{Watched, with_game as with_entry}
use Rattle.tree_live.specs.declared.entry.Entry.{Entry}
use Rattle.tree_rows.specs.declared.hit.GameHit.{GameHit}

-- ---- a game that is added

-- Its line.
pub add_says : (holding : Holding) (seen : Seen) (i : Intake) (head : Head) (game : GameTree) (number : ℕ) (line : List ℕ)
    → IsAdded holding seen i.state head game number → line ≡ game_line (codes "added ") number → line ≡ item_text i (Good head game)
add_says holding seen i head game number line is written =
    written ∙ ap (game_line (codes "added ")) is.last ∙ ap (λ (r : Option Refusal). added_line r i) (sym is.free)

-- The state with it.
pub add_stands : (holding : Holding) (seen : Seen) (i : Intake) (head : Head) (game : GameTree) (number : ℕ) → IsAdded holding seen i.state head game number
    → Stands holding seen (item_after i (Good head game)).state
add_stands holding seen i head game number is =
    subst (Stands holding seen) (ap (λ (r : Option Refusal). (unless_not_added r i head game).state) (sym is.free)) is.stands

-- It counts.
pub add_counts : (holding : Holding) (seen : Seen) (i : Intake) (head : Head) (game : GameTree) (number : ℕ) → IsAdded holding seen i.state head game number → Counted true i (item_after i (Good head game))
add_counts holding seen i head game number is =
    let P : Option Refusal → Type 0 = λ r. Counted true i (unless_not_added r i head game) in
    let counted : Counted true i (unless_not_added None i head game) = record { added = refl; refused = omega arith } in
    subst P (sym is.free) counted

-- ---- one that is refused

pub refused_item_says : (holding : Holding) (seen : Seen) (i : Intake) (head : Head) (game : GameTree) (why : Refusal) (number : ℕ) (line : List ℕ)
    → IsNotAdded holding seen i.state head game why → line ≡ not_added_line number why → next_number i ≡ number → line ≡ item_text i (Good head game)
refused_item_says holding seen i head game why number line is written num =
    written ∙ ap (λ (n : ℕ). not_added_line n why) (sym num) ∙ ap (λ (r : Option Refusal). added_line r i) (sym is.refused)

pub refused_item_stands : (holding : Holding) (seen : Seen) (i : Intake) (head : Head) (game : GameTree) (why : Refusal) → IsNotAdded holding seen i.state head game why
    → Stands holding seen (item_after i (Good head game)).state
refused_item_stands holding seen i head game why is =
    subst (Stands holding seen) (ap (λ (r : Option Refusal). (unless_not_added r i head game).state) (sym is.refused)) is.stands

pub refused_item_counts : (holding : Holding) (seen : Seen) (i : Intake) (head : Head) (game : GameTree) (why : Refusal) → IsNotAdded holding seen i.state head game why
    → Counted false i (item_after i (Good head game))
refused_item_counts holding seen i head game why is =
    let P : Option Refusal → Type 0 = λ r. Counted false i (unless_not_added r i head game) in
    let counted : Counted false i (unless_not_added (Some why) i head game) = record { added = omega arith; refused = refl } in
    subst P (sym is.refused) counted

-- ---- a game in the place of another

-- It can be put there.
pub one_fits : (kept : Kept) (games : List ℕ) (base : Base) (head : Head) (game : GameTree) → Represents kept games base
    → CanPlace (length (written_record head.tags game)) (first_full (length kept.entries) (names_with head kept.names) (end_with head game kept.end))
    → the_one base (Good head game ∷ []) ≡ Ok (head, game)
one_fits kept games base head game is can =
    let none : refusal_of base head game ≡ None = sym (kept-refusal kept games base head game is) ∙ none_lined _ _ can in
    ap (λ (r : Option (List ℕ)). unless_line r (Ok (head, game))) none

-- The index has it there.
index_replaced : (i : ℕ) (head : Head) (game : GameTree) (base : Base) (depth : Option ℕ)
    → option_map (index_with_at i game) (option_map (index_of (map (λ (held : Held). held.game) base.games)) depth)
    ≡ option_map (index_of (map (λ (held : Held). held.game) (game_replaced i head game base).games)) depth
unfolding game_replaced
index_replaced i head game base None = refl
index_replaced i head game base (Some depth) =
    let games : List GameTree = map (λ (held : Held). held.game) base.games in
    ap (λ (rows : List (List Place)). Some (record { depth = depth; rows = rows }))
    (sym (ap (map (row_of depth)) (map-set (λ (g : GameTree). Some g) games i game) ∙ map-set (row_of depth) (map Some games) i (Some game))
    ∙ ap (λ (all : List GameTree). map (row_of depth) (map Some all)) (sym (put_games (λ _. held_of head game) i base.games game (λ held. refl))))

-- And a row for each game as before.
pub index_keeps : (index index' : Option Index) (i games entries : ℕ) (game : GameTree) → index' ≡ option_map (index_with_at i game) index → entries ≡ games
    → IfSome index (λ (x : Index). length x.rows ≡ games) → IfSome index' (λ (x : Index). length x.rows ≡ entries)
index_keeps index index' i games entries game put count fits =
    subst (λ (x : Option Index). IfSome x (λ (y : Index). length y.rows ≡ entries)) (sym put) (same_rows index games entries i game count fits)
  where
    same_rows : (index : Option Index) (games entries i : ℕ) (game : GameTree) → entries ≡ games → IfSome index (λ (x : Index). length x.rows ≡ games)
        → IfSome (option_map (index_with_at i game) index) (λ (x : Index). length x.rows ≡ entries)
    same_rows None games entries i game count fits = tt
    same_rows (Some index) games entries i game count fits = length-set index.rows i (places_of index.depth game) ∙ fits ∙ sym count

-- There is a row in the place of the old game.
pub index_there : (index : Option Index) (i games : ℕ) → i < games → IfSome index (λ (x : Index). length x.rows ≡ games) → IfSome index (λ (x : Index). i < length x.rows)
index_there None i games there fits = tt
index_there (Some index) i games there fits = omega (arith, there, fits)

-- And the slots have its hits there, where they show trees.
pub tables_put : (holding : Holding) (seen : Seen) (s : State) (head : Head) (game : GameTree) (index' : Option Index) (i : ℕ) (hits : List (Option GameHit)) (watches watches' : List (Option Watched))
    → Stands holding seen s → i < length holding.kept.entries → index' ≡ option_map (index_with_at i game) holding.tables.index → tables_in watches ≡ holding.tables.hits
    → length watches' ≡ length watches → AreHits watches head game hits
    → ((k : ℕ) → in_slot watches' k ≡ option_map (λ (w : Watched). record w { games = with_entry i (record { hit = in_slot hits k; is_in = false }) w.games }) (in_slot watches k))
    → record { index = index'; hits = tables_in watches' } ≡ tables_by s.shared.index s.slots (game_replaced i head game s.shared.base).games
unfolding game_replaced
tables_put holding seen s head game index' i hits watches watches' st there put held count are follow =
    ap₂ (λ (x : Option Index) (l : List (Option HitTable)). record { index = x; hits = l })
    (put ∙ ap (option_map (index_with_at i game)) (index_is st) ∙ index_replaced i head game s.shared.base s.shared.index)
    (slots_follow i head game hits watches watches' s.shared.base.games (changed_at (λ (old : Held). held_of head game) i s.shared.base.games) s.slots count are follow
    (λ query. hits_among query (held_of head game) s.shared.base.games i (omega (arith, there, st.base.count)))
    (held ∙ ap (λ (t : Tables). t.hits) st.tables))

-- There is an entry for it there.
pub few_games : (kept : Kept) (games : ℕ) → IsSound kept → length kept.entries ≡ games → games ≤ 16777214
few_games kept games sound count = omega (arith, sound.count, sound.header.games, count)

pub room_there : (i : ℕ) (watches : List (Option Watched)) (games : ℕ) → i < games → games ≤ 16777214
    → ((k : ℕ) → IfSome (in_slot (tables_in watches) k) (λ (table : HitTable). length table.hits ≡ games)) → (k : ℕ) → IfSome (in_slot watches k) (λ (watch : Watched). (i ≤ length watch.games) × (i < 16777214))
room_there i watches games there few fits = λ k.
    by (in_slot watches k) (subst (λ (o : Option HitTable). IfSome o (λ (table : HitTable). length table.hits ≡ games)) (in_mapped table_in watches k) (fits k))
  where
    by : (watch : Option Watched) → IfSome (option_map table_in watch) (λ (table : HitTable). length table.hits ≡ games) → IfSome watch (λ (w : Watched). (i ≤ length w.games) × (i < 16777214))
    by None is = tt
    by (Some watch) is = (omega (arith, is, there, length-map watch.games (λ (e : Entry). e.hit)), omega (arith, there, few))

-- And as many as before.
pub one_among : (i games entries : ℕ) → i < games → entries ≡ games → (n : ℕ) → n ≡ games → (if nat_lt i n then n else n + 1) ≡ entries
one_among i games entries there count n is =
    let test : nat_lt i n ≡ true = lt-ltb i n (omega (arith, there, is)) in
    rw test (omega (arith, is, count))

pub replace_stands : (old new : Kept) (tables tables' : Tables) (filter filter' : List (Option ℕ)) (saved saved' : List SavedFilter) (seen seen' : Seen) (s : State) (i : ℕ) (head : Head) (game : GameTree)
    → Stands (held_by old tables filter saved) seen s → IsEnd old.end seen → Places (written_record head.tags game) (game_replaced i head game) old new
    → CanPlace (length (written_record head.tags game)) (first_full (length old.entries) (names_with head old.names) (end_with head game old.end))
    → seen' ≡ appended (padded old.end (written_record head.tags game)) seen → new.unsaved ≡ true → HoldsNames new.names old.names
    → filter' ≡ to_start i filter → saved' ≡ map (kept_to_start i) saved → tables' ≡ tables_by s.shared.index s.slots (game_replaced i head game s.shared.base).games
    → Stands (held_by new tables' filter' saved') seen' (state_with s i (the_one s.shared.base (Good head game ∷ [])))
replace_stands old new tables tables' filter filter' saved saved' seen seen' s i head game st ends places room is unsaved names put left indexed =
    let bytes : List ℕ = padded old.end (written_record head.tags game) in
    let one : the_one s.shared.base (Good head game ∷ []) ≡ Ok (head, game) = one_fits old st.games s.shared.base head game st.base room in
    let standing : Stands (held_by new tables' filter' saved') seen' (state_with s i (Ok (head, game))) = record {
      games = st.games ++ bytes;
      told = told_more seen seen' st.games bytes st.told is;
      base = places st.games s.shared.base (ends_there seen.games st.games old.end st.told ends.told) st.base;
      seat = seats_are (record { filter = filter'; saved = saved' }) _ (put ∙ ap (to_start i) (filter_is st)) (left ∙ ap (map (kept_to_start i)) (saved_is st));
      unsaved = unsaved;
      carried = beside_grown old new seen seen' bytes s.shared.unsaved s.shared.carried is names st.carried;
      tables = indexed;
      fresh = ap (λ (x : Seen). x.fresh) is ∙ st.fresh;
    } in
    subst (Stands (held_by new tables' filter' saved') seen') (ap (state_with s i) (sym one)) standing

pub replace_says : (old : Kept) (tables : Tables) (filter : List (Option ℕ)) (saved : List SavedFilter) (seen : Seen) (s : State) (i : ℕ) (head : Head) (game : GameTree) (line : List ℕ)
    → Stands (held_by old tables filter saved) seen s
    → CanPlace (length (written_record head.tags game)) (first_full (length old.entries) (names_with head old.names) (end_with head game old.end))
    → line ≡ game_line (codes "replaced ") i → line ≡ line_with i (the_one s.shared.base (Good head game ∷ []))
replace_says old tables filter saved seen s i head game line st room written =
    written ∙ ap (line_with i) (sym (one_fits old st.games s.shared.base head game st.base room))

pub replace_fits : (old new : Kept) (tables tables' : Tables) (filter filter' : List (Option ℕ)) (saved saved' : List SavedFilter) (i : ℕ) → length new.entries ≡ length old.entries → filter' ≡ to_start i filter → saved' ≡ map (kept_to_start i) saved
    → Fits (held_by old tables filter saved) → Fits (held_by new tables' filter' saved')
replace_fits old new tables tables' filter filter' saved saved' i count put left fits =
    let P : List SavedFilter → Type 0 = λ l. All (λ (f : SavedFilter). length f.plies ≡ length new.entries) l in
    let Q : ℕ → Type 0 = λ n. All (λ (f : SavedFilter). length f.plies ≡ n) (map (kept_to_start i) saved) in
    record {
      filter = ap (λ (f : List (Option ℕ)). length f) put ∙ length_to_start i filter ∙ fits.filter ∙ sym count;
      saved = subst P (sym left) (subst Q (sym count) (all_to_start i (length old.entries) saved fits.saved));
    }

-- It is refused.
one_refused_so : (kept : Kept) (games : List ℕ) (base : Base) (head : Head) (game : GameTree) (e : EditError) (line : List ℕ) → Represents kept games base
    → WhyNotPlaced (length (written_record head.tags game)) (first_full (length kept.entries) (names_with head kept.names) (end_with head game kept.end)) e → refused_line e ≡ Ok line
    → the_one base (Good head game ∷ []) ≡ Err line
one_refused_so kept games base head game e line is why ends =
    let some : refusal_of base head game ≡ Some line = sym (kept-refusal kept games base head game is) ∙ lined_so e _ _ line why ends in
    ap (λ (r : Option (List ℕ)). unless_line r (Ok (head, game))) some

pub not_replaced_stands : (kept : Kept) (tables : Tables) (filter : List (Option ℕ)) (saved : List SavedFilter) (seen seen' : Seen) (s : State) (i : ℕ) (head : Head) (game : GameTree) (e : EditError) (line : List ℕ)
    → Stands (held_by kept tables filter saved) seen s
    → WhyNotPlaced (length (written_record head.tags game)) (first_full (length kept.entries) (names_with head kept.names) (end_with head game kept.end)) e → refused_line e ≡ Ok line → seen' ≡ seen
    → Stands (held_by kept tables filter saved) seen' (state_with s i (the_one s.shared.base (Good head game ∷ [])))
not_replaced_stands kept tables filter saved seen seen' s i head game e line st why ends same =
    let one = one_refused_so kept st.games s.shared.base head game e line st.base why ends in
    subst (Stands (held_by kept tables filter saved) seen') (ap (state_with s i) (sym one)) (subst (λ (x : Seen). Stands (held_by kept tables filter saved) x s) (sym same) st)

pub not_replaced_says : (kept : Kept) (tables : Tables) (filter : List (Option ℕ)) (saved : List SavedFilter) (seen : Seen) (s : State) (i : ℕ) (head : Head) (game : GameTree) (e : EditError) (line : List ℕ)
    → Stands (held_by kept tables filter saved) seen s
    → WhyNotPlaced (length (written_record head.tags game)) (first_full (length kept.entries) (names_with head kept.names) (end_with head game kept.end)) e → refused_line e ≡ Ok line
    → line ≡ line_with i (the_one s.shared.base (Good head game ∷ []))
not_replaced_says kept tables filter saved seen s i head game e line st why ends =
    ap (line_with i) (sym (one_refused_so kept st.games s.shared.base head game e line st.base why ends))
