-- Laws of `compact`.
use Rattle.std.proofs.Common.{◌≡◌, ℕ, List, slice_get, Some, zero, suc, Bool, [], ◌∷◌, length, map, refl, sym, ap₂, inl, inr, filter, ◌∙◌, ap, ◌≤◌, true, subst, ◌<◌, false, Option, option_map, if◌then◌else◌, None, Ok, IfSome, Err, arith}
use Rattle.std.proofs.lemmas.Bool.{cases_Bool, le-leb, lt-leb}
use Rattle.std.proofs.lemmas.List.{length-map}
use Rattle.std.proofs.lemmas.List.Elements.{All-map}
use Rattle.std.proofs.lemmas.List.Sums.{sum_by-cons}
use Rattle.std.proofs.lemmas.Option.{same_Some}
use Rattle.std.specs.Prelude.{All, get_or, sum_by, ◌+◌, not}
use Rattle.base_core.specs.Base.{Held, Base}
use Rattle.base_core.specs.Compacted.{stays, compacted, end_of, only}
use Rattle.base_core.specs.Entries.{head_of}
use Rattle.base_core.specs.Represents.{Kept, Represents}
use Rattle.base_core.specs.Saved.{MeansIt, OpensAgain}
use Rattle.base_core.specs.declared.fault.What.TheVariants.{File}
use Rattle.base_files.specs.Seen.{Seen, told_instead, FreshAlone}
use Rattle.base_files.specs.declared.faults.Stop.TheVariants as stop
use Rattle.block_store.specs.Placing.{longest_file}
use Rattle.compact_base.proofs.FirstLaws.{held-deleted}
use Rattle.compact_base.specs.Compacting.{CopiesRecords, staying, new_end, numbering, numbers_from, Compacts, IsCommitted, new_games, WhyNotCompacted, IfChanged, kept_len}
use Rattle.compact_base.specs.declared.fault.CompactError.{CompactError}
use Rattle.compact_base.specs.declared.fault.CompactError.TheVariants as compacting
use Rattle.game_filter.proofs.Renumberings.{length-renumbered}
use Rattle.game_filter.specs.Renumbering.{renumbered, Rises}
use Rattle.index_entry.specs.declared.entry.Entry.{Entry}
use Rattle.name_base.specs.NameLists.{NameLists}
use Rattle.pos_index.specs.Hits.{Index, Place, rows_told, row_of}
use Rattle.edit_commands.proofs.SaveLaws.{contents_of, known_told}
use Rattle.edit_commands.specs.Compacting.{DidCompact, numbers_of, is_within, compacted_state, compact_after, compact_text, compacted_line}
use Rattle.edit_commands.specs.Ends.{uncompacted}
use Rattle.filter_seat.specs.SavedFilters.{kept_renumbered}
use Rattle.filter_seat.specs.Seats.{each_filter}
use Rattle.filter_seat.specs.declared.saved.SavedFilter.{SavedFilter}
use Rattle.edit_commands.specs.Indexed.{renumbered_index}
use Rattle.shell_state.proofs.CarryLaws.{beside_meant, may_carry}
use Rattle.shell_state.proofs.IndexLaws.{index_is}
use Rattle.shell_state.proofs.PriceLaws.{none_looked}
use Rattle.shell_state.proofs.Quietly.{held_by, tables_with}
use Rattle.shell_state.proofs.TableLaws.{hits_on, in_mapped, in_tables, same_slots}
use Rattle.shell_state.proofs.CarryLaws.{MayCarry}
use Rattle.shell_state.specs.Carrying.{Contents, AreBeside, Beside, StillCarry}
use Rattle.shell_state.specs.Ends.{IsDevice, EndsAs}
use Rattle.shell_state.specs.Refusing.{refusal_line}
use Rattle.shell_state.specs.Slots.{HitTable, Slot, exactly_on, hit_of_game, slot_at, table_in, table_of, tables_in, tables_of}
use Rattle.shell_state.specs.Slots.Slot.{empty, idle, shows}
use Rattle.shell_state.specs.Stands.{Stands, Holding, Fits, Tables, looks_in, index_of, look_at, looks_at_all}
use Rattle.shell_state.specs.State.{Carried, State}
use Rattle.shell_state.specs.Work.{Look}
use Rattle.shell_state.specs.declared.halt.Halt.{Halt}
use Rattle.shell_state.specs.declared.halt.Halt.TheVariants as halt
use Rattle.shell_state.specs.declared.refusing.Refusal.TheVariants.{Full}
use Rattle.sig_index.specs.declared.pos_query.PosQuery.{PosQuery}
use Rattle.tree_live.specs.Slots.{in_slot}
use Rattle.tree_live.specs.Watching.{Watched}
use Rattle.tree_live.specs.declared.entry.Entry.{Entry as WatchedGame}
use Rattle.tree_rows.specs.declared.hit.GameHit.{GameHit}

-- ---- what is kept and the base are left with the same games.

-- An entry and its game have the same length and go together.
abbrev Pairs : List Entry → List Held → Type 0
Pairs es all = (i : ℕ) (e : Entry) (held : Held) → slice_get es i ≡ Some e → slice_get all i ≡ Some held → (held.len ≡ e.len) × (held.head.deleted ≡ e.deleted)

pairs : (kept : Kept) (games : List ℕ) (base : Base) → Represents kept games base → Pairs kept.entries base.games
pairs kept games base is = λ i e held at there. let keeps = is.each i e held at there in (keeps.says.len, held-deleted kept.names games e held keeps)

same_flags : (es : List Entry) (all : List Held) → length es ≡ length all → Pairs es all → map (λ (x : Entry). x.deleted) es ≡ map (λ (x : Held). x.head.deleted) all
same_flags [] [] count each = refl
same_flags [] (held ∷ all) count each = cc
same_flags (e ∷ es) [] count each = cc
same_flags (e ∷ es) (held ∷ all) count each =
    let count' : length es ≡ length all = cc in
    ap₂ (λ (b : Bool) (l : List Bool). b ∷ l) (sym (each zero e held refl refl).1) (same_flags es all count' (λ i e' held' there here. each (suc i) e' held' there here))

same_lens : (es : List Entry) (all : List Held) → length es ≡ length all → Pairs es all → map (λ (x : Entry). x.len) (staying es) ≡ map (λ (x : Held). x.len) (filter stays all)
same_lens [] [] count each = refl
same_lens [] (held ∷ all) count each = cc
same_lens (e ∷ es) [] count each = cc
same_lens (e ∷ es) (held ∷ all) count each =
    let count' : length es ≡ length all = cc in
    let here = each zero e held refl refl in
    let rest = same_lens es all count' (λ i e' held' there here'. each (suc i) e' held' there here') in
    elim (cases_Bool e.deleted) [
      | inl goes ↦ rw (goes, here.1 ∙ goes) rest
      | inr stay ↦ rw (stay, here.1 ∙ stay) (ap₂ (λ (n : ℕ) (l : List ℕ). n ∷ l) (sym here.0) rest)
    ]

end_compacted : (base : Base) → (compacted base).end ≡ end_of 0 (map (λ (x : Held). x.len) (filter stays base.games))
unfolding compacted only
end_compacted base = refl

games_compacted : (base : Base) → (compacted base).games ≡ filter stays base.games
unfolding compacted only
games_compacted base = refl

same_end : (kept : Kept) (games : List ℕ) (base : Base) → Represents kept games base → (compacted base).end ≡ new_end kept.entries
same_end kept games base is = end_compacted base ∙ ap (λ (lens : List ℕ). end_of 0 lens) (sym (same_lens kept.entries base.games is.count (pairs kept games base is)))

pub numbers_same : (kept : Kept) (games : List ℕ) (base : Base) → Represents kept games base → (numbering kept.entries).to ≡ numbers_of base
numbers_same kept games base is = ap (λ (flags : List Bool). numbers_from 0 flags) (same_flags kept.entries base.games is.count (pairs kept games base is))

pub kept_same : (kept : Kept) (games : List ℕ) (base : Base) → Represents kept games base → (numbering kept.entries).kept ≡ length (compacted base).games
kept_same kept games base is =
    let lens = same_lens kept.entries base.games is.count (pairs kept games base is) in
    sym (length-map (staying kept.entries) (λ (x : Entry). x.len)) ∙ (ap (λ (l : List ℕ). length l) lens
    ∙ (length-map (filter stays base.games) (λ (x : Held). x.len) ∙ ap (λ (l : List Held). length l) (sym (games_compacted base))))

within_true : (kept : Kept) (games : List ℕ) (base : Base) → Represents kept games base → new_end kept.entries ≤ longest_file → is_within base ≡ true
within_true kept games base is room = le-leb (compacted base).end longest_file (subst (λ (n : ℕ). n ≤ longest_file) (sym (same_end kept games base is)) room)

within_false : (kept : Kept) (games : List ℕ) (base : Base) → Represents kept games base → longest_file < new_end kept.entries → is_within base ≡ false
within_false kept games base is over = lt-leb (compacted base).end longest_file (subst (λ (n : ℕ). longest_file < n) (sym (same_end kept games base is)) over)

-- ---- the index.

-- The rows of the games that stay.
rows_left : (depth next : ℕ) (all : List Held)
    → renumbered (numbers_from next (map (λ (held : Held). held.head.deleted) all)) (map (row_of depth) (map Some (map (λ (held : Held). held.game) all)))
    ≡ map (row_of depth) (map Some (map (λ (held : Held). held.game) (filter stays all)))
rows_left depth next [] = refl
rows_left depth next (held ∷ all) = elim (cases_Bool held.head.deleted) [
  | inl goes ↦ rw goes (rows_left depth next all)
  | inr stay ↦ rw stay (ap (λ (rows : List (List Place)). row_of depth (Some held.game) ∷ rows) (rows_left depth (next + 1) all))
]

-- The index that is renumbered is that of the base that is left.
index_left : (to : List (Option ℕ)) (base : Base) (depth : Option ℕ) → to ≡ numbers_of base
    → option_map (renumbered_index to) (option_map (index_of (map (λ (held : Held). held.game) base.games)) depth)
    ≡ option_map (index_of (map (λ (held : Held). held.game) (compacted base).games)) depth
index_left to base None is = refl
index_left to base (Some depth) is =
    ap (λ (rows : List (List Place)). Some (record { depth = depth; rows = rows }))
    (ap (λ (numbers : List (Option ℕ)). renumbered numbers (map (row_of depth) (map Some (map (λ (held : Held). held.game) base.games)))) is
    ∙ rows_left depth 0 base.games
    ∙ ap (λ (all : List Held). map (row_of depth) (map Some (map (λ (held : Held). held.game) all))) (sym (games_compacted base)))

-- It can be renumbered where it has a row for each game.
pub index_long : (to : List (Option ℕ)) (games : ℕ) (index : Option Index) → length to ≡ games
    → IfSome index (λ (x : Index). length x.rows ≡ games) → IfSome index (λ (x : Index). length to ≡ length x.rows)
index_long to games None all fits = tt
index_long to games (Some index) all fits = all ∙ sym fits

-- As many rows stay as have a new number.
rows_count : {T : Type 0} (next kept : ℕ) (to : List (Option ℕ)) (rows : List T) → Rises next to kept → length to ≡ length rows → next + length (renumbered to rows) ≡ kept
rows_count next kept [] rows rises same = omega (arith, rises)
rows_count next kept (number ∷ to) [] rises same = absurd (omega (arith, same))
rows_count next kept (None ∷ to) (row ∷ rows) rises same = rows_count next kept to rows rises (omega (arith, same))
rows_count next kept (Some number ∷ to) (row ∷ rows) rises same = omega (arith, rows_count (next + 1) kept to rows rises.1 (omega (arith, same)))

-- It has a row for each game that is left.
pub index_left_fits : (to : List (Option ℕ)) (kept games : ℕ) (index : Option Index) → Rises 0 to kept → length to ≡ games
    → IfSome index (λ (x : Index). length x.rows ≡ games) → IfSome (option_map (renumbered_index to) index) (λ (x : Index). length x.rows ≡ kept)
index_left_fits to kept games None rises all fits = tt
index_left_fits to kept games (Some index) rises all fits =
    let rest = rows_count 0 kept to index.rows rises (all ∙ sym fits) in omega (arith, rest)

-- ---- the slots.

map-renumbered : {X Y : Type 0} (f : X → Y) (to : List (Option ℕ)) (xs : List X) → map f (renumbered to xs) ≡ renumbered to (map f xs)
map-renumbered f [] xs = refl
map-renumbered f (number ∷ to) [] = refl
map-renumbered f (None ∷ to) (x ∷ xs) = map-renumbered f to xs
map-renumbered {X} {Y} f (Some number ∷ to) (x ∷ xs) = ap (λ (ys : List Y). f x ∷ ys) (map-renumbered f to xs)

-- The hits of the games that stay.
hits_left : (query : PosQuery) (next : ℕ) (all : List Held)
    → renumbered (numbers_from next (map (λ (held : Held). held.head.deleted) all)) (hits_on query all) ≡ hits_on query (filter stays all)
hits_left query next [] = refl
hits_left query next (held ∷ all) = elim (cases_Bool held.head.deleted) [
  | inl goes ↦ rw goes (hits_left query next all)
  | inr stay ↦ rw stay (ap (λ (hits : List (Option GameHit)). hit_of_game query held ∷ hits) (hits_left query (next + 1) all))
]

-- The hits of a slot.
table_left : (to : List (Option ℕ)) (base : Base) (watch : Option Watched) (slot : Slot) → to ≡ numbers_of base → option_map table_in watch ≡ table_of base.games slot
    → option_map table_in (option_map (λ (w : Watched). record w { games = renumbered to w.games }) watch) ≡ table_of (compacted base).games slot
table_left to base None empty is same = refl
table_left to base None idle is same = refl
table_left to base None (shows board) is same = absurd (cc)
table_left to base (Some watch) empty is same = absurd (cc)
table_left to base (Some watch) idle is same = absurd (cc)
table_left to base (Some watch) (shows board) is same =
    let query : PosQuery = exactly_on board in
    let table = same_Some (table_in watch) (record { board = board; hits = hits_on query base.games }) same in
    ap (λ (hits : List (Option GameHit)). Some (record { board = watch.board; hits = hits })) (map-renumbered (λ (e : WatchedGame). e.hit) to watch.games)
    ∙ (ap (λ (t : HitTable). Some (record { board = t.board; hits = renumbered to t.hits })) table
    ∙ ap (λ (hits : List (Option GameHit)). Some (record { board = board; hits = hits }))
    (ap (λ (numbers : List (Option ℕ)). renumbered numbers (hits_on query base.games)) is
    ∙ (hits_left query 0 base.games ∙ ap (hits_on query) (sym (games_compacted base)))))

-- The slots that are renumbered are those of the base that is left.
slots_left : (to : List (Option ℕ)) (base : Base) (watches watches' : List (Option Watched)) (slots : List Slot) → to ≡ numbers_of base → length watches' ≡ length watches
    → ((k : ℕ) → in_slot watches' k ≡ option_map (λ (w : Watched). record w { games = renumbered to w.games }) (in_slot watches k))
    → tables_in watches ≡ tables_of base.games slots → tables_in watches' ≡ tables_of (compacted base).games slots
slots_left to base watches watches' slots is count follow held =
    same_slots (tables_in watches') (tables_of (compacted base).games slots)
    (length-map watches' (option_map table_in) ∙ (count ∙ (sym (length-map watches (option_map table_in)) ∙ (ap (λ (l : List (Option HitTable)). length l) held
    ∙ (length-map slots (table_of base.games) ∙ sym (length-map slots (table_of (compacted base).games)))))))
    (λ k.
    in_mapped table_in watches' k ∙ (ap (option_map table_in) (follow k)
    ∙ (table_left to base (in_slot watches k) (slot_at slots k) is (sym (in_mapped table_in watches k) ∙ (ap (λ (l : List (Option HitTable)). in_slot l k) held ∙ in_tables base.games slots k))
    ∙ sym (in_tables (compacted base).games slots k))))

-- They can be renumbered where each that shows a tree has a hit or none for each game.
pub slots_long : (to : List (Option ℕ)) (games : ℕ) (watches : List (Option Watched)) → length to ≡ games
    → ((k : ℕ) → IfSome (in_slot (tables_in watches) k) (λ (table : HitTable). length table.hits ≡ games)) → (k : ℕ) → IfSome (in_slot watches k) (λ (watch : Watched). length to ≡ length watch.games)
slots_long to games watches all fits = λ k.
    by (in_slot watches k) (subst (λ (o : Option HitTable). IfSome o (λ (table : HitTable). length table.hits ≡ games)) (in_mapped table_in watches k) (fits k))
  where
    by : (watch : Option Watched) → IfSome (option_map table_in watch) (λ (table : HitTable). length table.hits ≡ games) → IfSome watch (λ (w : Watched). length to ≡ length w.games)
    by None is = tt
    by (Some watch) is = all ∙ (sym is ∙ length-map watch.games (λ (e : WatchedGame). e.hit))

-- And then it has one for each game that is left.
pub slots_left_fit : (to : List (Option ℕ)) (kept games : ℕ) (watches watches' : List (Option Watched)) → Rises 0 to kept → length to ≡ games
    → ((k : ℕ) → in_slot watches' k ≡ option_map (λ (w : Watched). record w { games = renumbered to w.games }) (in_slot watches k))
    → ((k : ℕ) → IfSome (in_slot (tables_in watches) k) (λ (table : HitTable). length table.hits ≡ games))
    → (k : ℕ) → IfSome (in_slot (tables_in watches') k) (λ (table : HitTable). length table.hits ≡ kept)
slots_left_fit to kept games watches watches' rises all follow fits = λ k.
    subst (λ (o : Option HitTable). IfSome o (λ (table : HitTable). length table.hits ≡ kept)) (sym (in_mapped table_in watches' k ∙ ap (option_map table_in) (follow k)))
    (by (in_slot watches k) (slots_long to games watches all fits k))
  where
    by : (watch : Option Watched) → IfSome watch (λ (w : Watched). length to ≡ length w.games)
        → IfSome (option_map table_in (option_map (λ (w : Watched). record w { games = renumbered to w.games }) watch)) (λ (table : HitTable). length table.hits ≡ kept)
    by None is = tt
    by (Some watch) is =
        let rest = rows_count 0 kept to watch.games rises is in
        length-map (renumbered to watch.games) (λ (e : WatchedGame). e.hit) ∙ omega (arith, rest)

-- ---- it was done.

-- What a compaction says where both games files are told.
known_games : (old new : Kept) (told now : Option (List ℕ)) (games fresh : List ℕ) (base : Base) → Compacts old new told now → told ≡ Some games → now ≡ Some fresh → Represents old games base → Represents new fresh (compacted base)
known_games old new told now games fresh base compacts is there represents =
    let T : Option (List ℕ) → Type 0 = λ o. Compacts old new o now in
    let N : Option (List ℕ) → Type 0 = λ o. Compacts old new (Some games) o in
    subst N there (subst T is compacts) base represents

-- The new games file.
fresh_told : (old new : Kept) (seen seen' : Seen) (games : List ℕ) → seen.games ≡ Some games → IsCommitted old new seen seen' → seen'.games ≡ Some (new_games old.entries games)
fresh_told old new seen seen' games told is = ap (λ (x : Seen). x.games) is.put ∙ ap (λ (o : Option (List ℕ)). option_map (new_games old.entries) o) told

-- The files mean what is left.
done_beside : (holding : Holding) (new : Kept) (seen seen' : Seen) (s : State) → Stands holding seen s → IsCommitted holding.kept new seen seen' → MeansIt new seen' → Compacts holding.kept new seen.games seen'.games
    → Beside new seen' false (record { base = compacted s.shared.base; sound = true })
done_beside holding new seen seen' s st is means compacts =
    let old : Kept = holding.kept in
    let before : Contents seen = contents_of old seen s.shared.unsaved s.shared.carried st.games st.carried st.told in
    let fresh : List ℕ = new_games old.entries st.games in
    let told : seen'.games ≡ Some fresh = fresh_told old new seen seen' st.games st.told is in
    let there : Represents new fresh (compacted s.shared.base) = known_games old new seen.games seen'.games st.games fresh s.shared.base compacts st.told told st.base in
    let now : Contents seen' = record {
      index = is.index;
      names = is.names;
      games = fresh;
      index_told = ap (λ (x : Seen). x.index) is.put ∙ ap (told_instead is.index) before.index_told;
      names_told = ap (λ (x : Seen). x.names) is.put ∙ ap (told_instead is.names) before.names_told;
      games_told = told;
    } in
    let again : OpensAgain now.index now.names now.games (compacted s.shared.base) =
    (known_told seen' (λ index names games. (base : Base) → Represents new games base → OpensAgain index names games base) now means) (compacted s.shared.base) there in
    beside_meant new seen' (compacted s.shared.base) true now there.names again.means (λ sound. again.whole)

-- The slots are moved so.
abbrev pub AreMoved : List (Option ℕ) → List (Option Watched) → List (Option Watched) → Type 0
AreMoved to watches watches' = (length watches' ≡ length watches) × ((k : ℕ) → in_slot watches' k ≡ option_map (λ (w : Watched). record w { games = renumbered to w.games }) (in_slot watches k))

done_stands : (old new : Kept) (index : Option Index) (watches watches' : List (Option Watched)) (filter : List (Option ℕ)) (saved : List SavedFilter) (seen seen' : Seen) (s : State)
    → Stands (held_by old (tables_with index watches) filter saved) seen s → IsCommitted old new seen seen' → MeansIt new seen' → Compacts old new seen.games seen'.games → new.unsaved ≡ false
    → AreMoved (numbering old.entries).to watches watches'
    → Stands (held_by new (tables_with (option_map (renumbered_index (numbering old.entries).to) index) watches') (renumbered (numbering old.entries).to filter) (map (kept_renumbered (numbering old.entries).to) saved)) seen' (compacted_state s)
done_stands old new index watches watches' filter saved seen seen' s st is means compacts clean moved =
    let fresh : List ℕ = new_games old.entries st.games in
    let told : seen'.games ≡ Some fresh = fresh_told old new seen seen' st.games st.told is in
    let to = numbers_same old st.games s.shared.base st.base in
    record {
      games = fresh;
      told = told;
      base = known_games old new seen.games seen'.games st.games fresh s.shared.base compacts st.told told st.base;
      seat = ap (each_filter (renumbered (numbering old.entries).to)) st.seat ∙ ap (λ (t : List (Option ℕ)). each_filter (renumbered t) s.seat) to;
      unsaved = clean;
      carried = done_beside (held_by old (tables_with index watches) filter saved) new seen seen' s st is means compacts;
      tables = ap₂ (λ (x : Option Index) (hits : List (Option HitTable)). record { index = x; hits = hits })
          (ap (option_map (renumbered_index (numbering old.entries).to)) (index_is st) ∙ index_left (numbering old.entries).to s.shared.base s.shared.index to)
          (slots_left (numbering old.entries).to s.shared.base watches watches' s.slots to moved.0 moved.1 (ap (λ (t : Tables). t.hits) st.tables));
      fresh = ap (λ (x : Seen). x.fresh) is.put ∙ ap (λ (o : Option (List ℕ)). told_instead [] (option_map (new_games old.entries) o)) st.told;
    }

pub compact_stands : (old new : Kept) (index : Option Index) (watches watches' : List (Option Watched)) (filter : List (Option ℕ)) (saved : List SavedFilter) (seen seen' : Seen) (s : State)
    → Stands (held_by old (tables_with index watches) filter saved) seen s → IsCommitted old new seen seen' → MeansIt new seen' → Compacts old new seen.games seen'.games → new.unsaved ≡ false → new_end old.entries ≤ longest_file
    → AreMoved (numbering old.entries).to watches watches'
    → Stands (held_by new (tables_with (option_map (renumbered_index (numbering old.entries).to) index) watches') (renumbered (numbering old.entries).to filter) (map (kept_renumbered (numbering old.entries).to) saved)) seen' (compact_after s)
compact_stands old new index watches watches' filter saved seen seen' s st is means compacts clean room moved =
    let P : Bool → Type 0 = λ b. Stands (held_by new (tables_with (option_map (renumbered_index (numbering old.entries).to) index) watches') (renumbered (numbering old.entries).to filter) (map (kept_renumbered (numbering old.entries).to) saved)) seen' (if b then compacted_state s else s) in
    subst P (sym (within_true old st.games s.shared.base st.base room)) (done_stands old new index watches watches' filter saved seen seen' s st is means compacts clean moved)

pub compact_says : (old : Kept) (tables : Tables) (filter : List (Option ℕ)) (saved : List SavedFilter) (seen : Seen) (s : State) (line : List ℕ) (games kept : ℕ) → Stands (held_by old tables filter saved) seen s → new_end old.entries ≤ longest_file
    → games ≡ length old.entries → kept ≡ (numbering old.entries).kept → line ≡ compacted_line games kept → line ≡ compact_text s
compact_says old tables filter saved seen s line games kept st room all left is =
    let P : Bool → Type 0 = λ b. line ≡ (if b then compacted_line (length s.shared.base.games) (length (compacted s.shared.base).games) else refusal_line (Full File)) in
    subst P (sym (within_true old st.games s.shared.base st.base room))
    (is ∙ (ap (λ (n : ℕ). compacted_line n kept) (all ∙ st.base.count) ∙ ap (λ (n : ℕ). compacted_line (length s.shared.base.games) n) (left ∙ kept_same old st.games s.shared.base st.base)))

-- ---- it was not done.

fresh_contents : (seen seen' : Seen) → FreshAlone seen seen' → Contents seen → Contents seen'
fresh_contents seen seen' left c = record {
  index = c.index;
  names = c.names;
  games = c.games;
  index_told = ap (λ (x : Seen). x.index) left ∙ c.index_told;
  names_told = ap (λ (x : Seen). x.names) left ∙ c.names_told;
  games_told = ap (λ (x : Seen). x.games) left ∙ c.games_told;
}

fresh_beside : (kept : Kept) (seen seen' : Seen) (unsaved : Bool) (carried : Option Carried) → FreshAlone seen seen' → AreBeside kept seen unsaved carried → AreBeside kept seen' unsaved carried
unfolding fresh_contents
fresh_beside kept seen seen' unsaved (Some base) left b =
    record { contents = fresh_contents seen seen' left b.contents; carries = b.carries; names = b.names; means = b.means; whole = b.whole }
fresh_beside kept seen seen' unsaved None left b = (ap (λ (x : Seen). x.index) left ∙ b.0, ap (λ (x : Seen). x.names) left ∙ b.1)

-- An error line comes where the new games file would be too long, and nothing changed.
over_by : (e : CompactError) (kept : Kept) (told : Option (List ℕ)) (buf line : List ℕ) → WhyNotCompacted kept told buf e → uncompacted e ≡ Ok line → (longest_file < new_end kept.entries) × (line ≡ refusal_line (Full File))
over_by compacting.Full kept told buf line why ends = let same : refusal_line (Full File) ≡ line = cc in (why, sym same)
over_by compacting.Failed kept told buf line why ends = cc
over_by compacting.Memory kept told buf line why ends = cc
over_by (compacting.Changed game sig found) kept told buf line why ends = cc

full_unchanged : (e : CompactError) (seen seen' : Seen) (line : List ℕ) → (e ≡ compacting.Full → seen' ≡ seen) → uncompacted e ≡ Ok line → seen' ≡ seen
full_unchanged compacting.Full seen seen' line unbegun ends = unbegun refl
full_unchanged compacting.Failed seen seen' line unbegun ends = cc
full_unchanged compacting.Memory seen seen' line unbegun ends = cc
full_unchanged (compacting.Changed game sig found) seen seen' line unbegun ends = cc

pub full_stands : (old : Kept) (tables : Tables) (filter : List (Option ℕ)) (saved : List SavedFilter) (seen seen' : Seen) (s : State) (e : CompactError) (told : Option (List ℕ)) (buf line : List ℕ) → Stands (held_by old tables filter saved) seen s
    → (e ≡ compacting.Full → seen' ≡ seen) → WhyNotCompacted old told buf e → uncompacted e ≡ Ok line → Stands (held_by old tables filter saved) seen' (compact_after s)
full_stands old tables filter saved seen seen' s e told buf line st unbegun why ends =
    let over = over_by e old told buf line why ends in
    let P : Bool → Type 0 = λ b. Stands (held_by old tables filter saved) seen' (if b then compacted_state s else s) in
    subst P (sym (within_false old st.games s.shared.base st.base over.0))
    (subst (λ (x : Seen). Stands (held_by old tables filter saved) x s) (sym (full_unchanged e seen seen' line unbegun ends)) st)

pub full_says : (old : Kept) (tables : Tables) (filter : List (Option ℕ)) (saved : List SavedFilter) (seen : Seen) (s : State) (e : CompactError) (told : Option (List ℕ)) (buf line : List ℕ) → Stands (held_by old tables filter saved) seen s
    → WhyNotCompacted old told buf e → uncompacted e ≡ Ok line → line ≡ compact_text s
full_says old tables filter saved seen s e told buf line st why ends =
    let over = over_by e old told buf line why ends in
    let P : Bool → Type 0 = λ b. line ≡ (if b then compacted_line (length s.shared.base.games) (length (compacted s.shared.base).games) else refusal_line (Full File)) in
    subst P (sym (within_false old st.games s.shared.base st.base over.0)) over.1

-- Whatever they tell, it is refused by its line, or was done.
pub refused_so : (old new : Kept) (before after : Seen) (e : CompactError) (line : List ℕ) → new ≡ old → uncompacted e ≡ Ok line → DidCompact old new before after line
refused_so old new before after compacting.Full line same ends = let is : line ≡ refusal_line (Full File) = cc in inr (is, same)
refused_so old new before after compacting.Failed line same ends = cc
refused_so old new before after compacting.Memory line same ends = cc
refused_so old new before after (compacting.Changed game kept found) line same ends = cc

pub done_so : (here : Holding) (old new : Kept) (before after : Seen) (games left : ℕ) (line : List ℕ) → old ≡ here.kept → games ≡ length here.kept.entries → left ≡ length new.entries → line ≡ compacted_line games left
    → CopiesRecords old before after → DidCompact here.kept new before after line
done_so here old new before after games left line same all stay is copied =
    inl (is ∙ ap (λ (n : ℕ). compacted_line n left) all ∙ ap (compacted_line (length here.kept.entries)) stay, subst (λ (k : Kept). CopiesRecords k before after) same copied)

-- Told files end it by a device alone.
none_changed : (kept : Kept) (games : List ℕ) (told : Option (List ℕ)) (base : Base) → told ≡ Some games → Represents kept games base → IfSome told (λ bytes. (other : Base) → Represents kept bytes other → ⊥) → ⊥
none_changed kept games told base same is none =
    let P : Option (List ℕ) → Type 0 = λ o. IfSome o (λ bytes. (other : Base) → Represents kept bytes other → ⊥) in
    (subst P same none) base is

device_so : (e : CompactError) (h : Halt) (kept : Kept) (games : List ℕ) (told : Option (List ℕ)) (base : Base) → told ≡ Some games → Represents kept games base
    → IfChanged e (IfSome told (λ bytes. (other : Base) → Represents kept bytes other → ⊥)) → uncompacted e ≡ Err h → IsDevice h
device_so compacting.Full h kept games told base same is changed ends = cc
device_so compacting.Failed h kept games told base same is changed ends = let e : halt.Device stop.Files ≡ h = cc in subst IsDevice e tt
device_so compacting.Memory h kept games told base same is changed ends = let e : halt.Device stop.Memory ≡ h = cc in subst IsDevice e tt
device_so (compacting.Changed g sig found) h kept games told base same is changed ends = absurd (none_changed kept games told base same is changed)

pub compact_device : (e : CompactError) (h : Halt) (kept : Kept) (tables : Tables) (filter : List (Option ℕ)) (saved : List SavedFilter) (seen : Seen) (s : State) → Stands (held_by kept tables filter saved) seen s
    → IfChanged e (IfSome seen.games (λ bytes. (other : Base) → Represents kept bytes other → ⊥)) → EndsAs (uncompacted e) h → IsDevice h
compact_device e h kept tables filter saved seen s st changed (inl memory) = subst IsDevice (sym memory) tt
compact_device e h kept tables filter saved seen s st changed (inr ends) = device_so e h kept st.games seen.games s.shared.base st.told st.base changed ends

-- ---- what the files carry where it is broken off.

pub fresh_carry : (holding : Holding) (seen seen' : Seen) (s : State) (leaves : Option (Base → Base)) → FreshAlone seen seen' → Stands holding seen s → StillCarry seen' s leaves
fresh_carry holding seen seen' s leaves left st =
    may_carry holding.kept seen' s.shared.unsaved s.shared.carried leaves s.shared.base (fresh_beside holding.kept seen seen' s.shared.unsaved s.shared.carried left st.carried)

done_may : (kept : Kept) (seen : Seen) (carried : Option Carried) (base : Base) → Beside kept seen false (record { base = compacted base; sound = true }) → MayCarry seen carried (Some compacted) base
done_may kept seen (Some own) base b = inr (b.contents, b.carries)
done_may kept seen None base b = tt

-- It was done, and its text was not written.
pub done_carry : (holding : Holding) (new : Kept) (seen seen' : Seen) (s : State) → Stands holding seen s → IsCommitted holding.kept new seen seen' → MeansIt new seen' → Compacts holding.kept new seen.games seen'.games
    → StillCarry seen' s (Some compacted)
done_carry holding new seen seen' s st is means compacts = done_may new seen' s.shared.carried s.shared.base (done_beside holding new seen seen' s st is means compacts)

-- ---- the filters.

-- They fit what is left.
pub compact_fits : (new : Kept) (tables : Tables) (filter : List (Option ℕ)) (saved made : List SavedFilter) (kept : ℕ) → length new.entries ≡ kept → length filter ≡ kept → made ≡ saved → All (λ (f : SavedFilter). length f.plies ≡ kept) saved → Fits (held_by new tables filter made)
compact_fits new tables filter saved made kept count long same fits =
    let P : List SavedFilter → Type 0 = λ l. All (λ (f : SavedFilter). length f.plies ≡ kept) l in
    let Q : ℕ → Type 0 = λ n. All (λ (f : SavedFilter). length f.plies ≡ n) made in
    record { filter = long ∙ sym count; saved = subst Q (sym count) (subst P (sym same) fits) }

pub saved_moved : (to : List (Option ℕ)) (kept games : ℕ) (saved : List SavedFilter) → Rises 0 to kept → length to ≡ games → All (λ (f : SavedFilter). length f.plies ≡ games) saved → All (λ (f : SavedFilter). length f.plies ≡ kept) (map (kept_renumbered to) saved)
saved_moved to kept games saved rises all fits =
    All-map (λ (f : SavedFilter). length f.plies ≡ kept) (kept_renumbered to) saved
    (λ k d within. let long : length to ≡ length (get_or saved k d).plies = all ∙ sym (fits k d within) in
    let rest = length-renumbered 0 kept to (get_or saved k d).plies rises long in omega (arith, rest))

-- ---- what it asks.

abbrev staying_looks : List Look → List Look
staying_looks looks = filter (λ (x : Look). not x.head.deleted) looks

-- Of one game more, whatever the index has of it.
staying_more : (names : NameLists) (places : List Place) (e : Entry) (es : List Entry) (looks : List Look)
    → sum_by (λ (x : Entry). x.len) (staying es) ≡ sum_by (λ (x : Look). x.len) (staying_looks looks)
    → sum_by (λ (x : Entry). x.len) (staying (e ∷ es)) ≡ sum_by (λ (x : Look). x.len) (staying_looks (look_at names places e ∷ looks))
unfolding head_of
staying_more names places e es looks rest = elim (cases_Bool e.deleted) [
  | inl goes ↦ rw goes rest
  | inr stay ↦ rw stay
      (sum_by-cons (λ (x : Entry). x.len) e (staying es) ∙ (ap (λ (n : ℕ). e.len + n) rest
      ∙ sym (sum_by-cons (λ (x : Look). x.len) (look_at names places e) (staying_looks looks))))
]

staying_lens : (names : NameLists) (rows : List (List Place)) (es : List Entry)
    → sum_by (λ (x : Entry). x.len) (staying es) ≡ sum_by (λ (x : Look). x.len) (staying_looks (looks_at_all names rows es))
staying_lens names rows [] = ap (λ (looks : List Look). sum_by (λ (x : Look). x.len) (staying_looks looks)) (sym (none_looked names rows))
staying_lens names [] (e ∷ es) = staying_more names [] e es (looks_at_all names [] es) (staying_lens names [] es)
staying_lens names (row ∷ rows) (e ∷ es) = staying_more names row e es (looks_at_all names rows es) (staying_lens names rows es)

pub compact_price : (holding : Holding) → kept_len holding.kept.entries ≡ sum_by (λ (x : Look). x.len) (filter (λ (x : Look). not x.head.deleted) (looks_in holding))
compact_price holding = staying_lens holding.kept.names (rows_told holding.tables.index) holding.kept.entries

-- ---- the filters that move

moved_by : (gone : Bool) (held : Held) (next : ℕ) (games : List Held) (ply : Option ℕ) (plies : List (Option ℕ)) → held.head.deleted ≡ gone
    → ((n : ℕ) → length (renumbered (numbers_from n (map (λ (h : Held). h.head.deleted) games)) plies) ≡ length (filter stays games))
    → length (renumbered (numbers_from next (map (λ (h : Held). h.head.deleted) (held ∷ games))) (ply ∷ plies)) ≡ length (filter stays (held ∷ games))
moved_by true held next games ply plies is rest = rw is (rest next)
moved_by false held next games ply plies is rest = rw is (ap (λ (n : ℕ). suc n) (rest (next + 1)))

moved_long : (next : ℕ) (games : List Held) (plies : List (Option ℕ)) → length plies ≡ length games
    → length (renumbered (numbers_from next (map (λ (h : Held). h.head.deleted) games)) plies) ≡ length (filter stays games)
moved_long next [] plies same = refl
moved_long next (held ∷ games) [] same = absurd (cc)
moved_long next (held ∷ games) (ply ∷ plies) same =
    let rest : length plies ≡ length games = cc in
    moved_by held.head.deleted held next games ply plies refl (λ n. moved_long n games plies rest)

-- A filter with an entry for each game has one for each game that stays.
pub length_moved : (base : Base) (plies : List (Option ℕ)) → length plies ≡ length base.games → length (renumbered (numbers_of base) plies) ≡ length (compacted base).games
unfolding compacted only
length_moved base plies same = moved_long 0 base.games plies same
