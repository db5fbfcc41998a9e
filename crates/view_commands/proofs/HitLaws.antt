-- What watches keep of the games of a state.
use Rattle.std.proofs.Common.{◌≡◌, ℕ, zero, suc, Bool, true, false, List, [], ◌∷◌, ◌++◌, length, map, Option, Some, None, option_map, refl, sym, subst, ap, ap₂, ◌∙◌, arith}
use Rattle.std.proofs.lemmas.List.{length-map, map-set}
use Rattle.std.proofs.lemmas.Option.{same_Some}
use Rattle.std.specs.Prelude.{if◌then◌else◌, IfSome, option_to_list, slice_set}
use Rattle.base_core.specs.Base.{Held}
use Rattle.cell_core.specs.Packed.{Packed}
use Rattle.shell_state.proofs.TableLaws.{in_mapped, in_tables, same_slots}
use Rattle.shell_state.specs.Slots.{HitTable, Slot, exactly_on, hit_of_game, slot_at, table_in, table_of, tables_in, tables_of}
use Rattle.shell_state.specs.Slots.Slot.{shows}
use Rattle.shell_state.specs.State.{State}
use Rattle.shell_state.specs.Meeting.{tree_hits}
use Rattle.sig_index.specs.declared.pos_query.PosQuery.{PosQuery}
use Rattle.tree_live.specs.Slots.{in_slot}
use Rattle.tree_live.specs.Watching.{Watched, all_out, hits_in, under}
use Rattle.tree_live.specs.declared.entry.Entry.{Entry}
use Rattle.tree_rows.specs.declared.hit.GameHit.{GameHit}
use Rattle.view_commands.specs.Views.{shown_hits}

-- The plies of a filter, and the hits of games that are in or out.
abbrev pub Plies : Type 0
Plies = List (Option ℕ)

abbrev pub hits_of : List Entry → List (Option GameHit)
hits_of entries = map (λ (e : Entry). e.hit) entries

-- ---- games under a filter

-- The hits that are in of games with these hits are those of their tree.
pub hits_are : (query : PosQuery) (plies : Plies) (entries : List Entry) (games : List Held) → hits_of entries ≡ map (hit_of_game query) games → length plies ≡ length entries
    → hits_in (under plies entries) ≡ tree_hits query plies games
hits_are query [] [] games is count = refl
hits_are query [] (e ∷ entries) games is count = absurd (omega (arith, count))
hits_are query (ply ∷ plies) [] games is count = absurd (omega (arith, count))
hits_are query (ply ∷ plies) (e ∷ entries) [] is count = absurd (cc)
hits_are query (ply ∷ plies) (e ∷ entries) (held ∷ games) is count =
    let head : e.hit ≡ hit_of_game query held = cc in
    let rest : hits_of entries ≡ map (hit_of_game query) games = cc in
    by ply head (hits_are query plies entries games rest (omega (arith, count)))
  where
    by : (ply : Option ℕ) → e.hit ≡ hit_of_game query held → hits_in (under plies entries) ≡ tree_hits query plies games
        → hits_in (under (ply ∷ plies) (e ∷ entries)) ≡ tree_hits query (ply ∷ plies) (held ∷ games)
    by None head rest = rest
    by (Some p) head rest = ap₂ (λ (a b : List GameHit). a ++ b) (ap option_to_list head) rest

-- A filter leaves the hits.
pub hits_kept : (plies : Plies) (entries : List Entry) → hits_of (under plies entries) ≡ hits_of entries
hits_kept [] entries = refl
hits_kept (ply ∷ plies) [] = refl
hits_kept (ply ∷ plies) (e ∷ entries) = ap (λ (l : List (Option GameHit)). e.hit ∷ l) (hits_kept plies entries)

hits_out : (hits : List (Option GameHit)) → hits_of (all_out hits) ≡ hits
hits_out [] = refl
hits_out (hit ∷ hits) = ap (λ (l : List (Option GameHit)). hit ∷ l) (hits_out hits)

-- All games that have hits stand under a filter of as many.
pub under_count : (plies : Plies) (hits : List (Option GameHit)) → length hits ≡ length plies → length (under plies (all_out hits)) ≡ length hits
under_count [] [] count = refl
under_count [] (hit ∷ hits) count = absurd (omega (arith, count))
under_count (ply ∷ plies) [] count = refl
under_count (ply ∷ plies) (hit ∷ hits) count = ap suc (under_count plies hits (omega (arith, count)))

-- ---- the tables of watches

abbrev pub filtered : Plies → Watched → Watched
filtered plies watch = record watch { games = under plies watch.games }

table_stays : (plies : Plies) (filters : Bool) (watch : Option Watched) → option_map table_in (option_map (λ (x : Watched). if filters then filtered plies x else x) watch) ≡ option_map table_in watch
table_stays plies filters None = refl
table_stays plies true (Some watch) = ap (λ (hits : List (Option GameHit)). Some (record { board = watch.board; hits = hits })) (hits_kept plies watch.games)
table_stays plies false (Some watch) = refl

-- A filter leaves the tables, of whichever watches.
pub tables_stay : (among : ℕ → Bool) (plies : Plies) (watches watches' : List (Option Watched)) → length watches' ≡ length watches
    → ((k : ℕ) → in_slot watches' k ≡ option_map (λ (x : Watched). if among k then filtered plies x else x) (in_slot watches k)) → tables_in watches' ≡ tables_in watches
tables_stay among plies watches watches' count changed =
    same_slots (tables_in watches') (tables_in watches) (length-map watches' (option_map table_in) ∙ count ∙ sym (length-map watches (option_map table_in)))
    (λ k. in_mapped table_in watches' k ∙ ap (option_map table_in) (changed k) ∙ table_stays plies (among k) (in_slot watches k) ∙ sym (in_mapped table_in watches k))

-- The watches fit a filter where their tables fit the games.
pub watches_fit : (watches : List (Option Watched)) (plies : Plies) (games : ℕ) → length plies ≡ games
    → ((k : ℕ) → IfSome (in_slot (tables_in watches) k) (λ (table : HitTable). length table.hits ≡ games)) → (k : ℕ) → IfSome (in_slot watches k) (λ (watch : Watched). length plies ≡ length watch.games)
watches_fit watches plies games count fits k =
    by (in_slot watches k) (subst (λ (o : Option HitTable). IfSome o (λ (table : HitTable). length table.hits ≡ games)) (in_mapped table_in watches k) (fits k))
  where
    by : (watch : Option Watched) → IfSome (option_map table_in watch) (λ (table : HitTable). length table.hits ≡ games) → IfSome watch (λ (w : Watched). length plies ≡ length w.games)
    by None is = tt
    by (Some watch) is = count ∙ sym is ∙ length-map watch.games (λ (e : Entry). e.hit)

-- The tables fit where one of them is another one.
fits_set : (watches : List (Option Watched)) (k : ℕ) (watch : Option Watched) (games : ℕ) → IfSome watch (λ (w : Watched). length w.games ≡ games)
    → ((j : ℕ) → IfSome (in_slot (tables_in watches) j) (λ (table : HitTable). length table.hits ≡ games))
    → (j : ℕ) → IfSome (in_slot (tables_in (slice_set watches k watch)) j) (λ (table : HitTable). length table.hits ≡ games)
fits_set [] k watch games own fits j = tt
fits_set (w ∷ watches) zero watch games own fits zero = by watch own
  where
    by : (watch : Option Watched) → IfSome watch (λ (w : Watched). length w.games ≡ games) → IfSome (option_map table_in watch) (λ (table : HitTable). length table.hits ≡ games)
    by None own = tt
    by (Some watch) own = length-map watch.games (λ (e : Entry). e.hit) ∙ own
fits_set (w ∷ watches) zero watch games own fits (suc j) = fits (suc j)
fits_set (w ∷ watches) (suc k) watch games own fits zero = fits zero
fits_set (w ∷ watches) (suc k) watch games own fits (suc j) = fits_set watches k watch games own (λ i. fits (suc i)) j

pub fits_with : (watches watches' : List (Option Watched)) (k : ℕ) (watch : Option Watched) (games : ℕ) → watches' ≡ slice_set watches k watch → IfSome watch (λ (w : Watched). length w.games ≡ games)
    → ((j : ℕ) → IfSome (in_slot (tables_in watches) j) (λ (table : HitTable). length table.hits ≡ games))
    → (j : ℕ) → IfSome (in_slot (tables_in watches') j) (λ (table : HitTable). length table.hits ≡ games)
fits_with watches watches' k watch games is own fits j =
    subst (λ (l : List (Option Watched)). IfSome (in_slot (tables_in l) j) (λ (table : HitTable). length table.hits ≡ games)) (sym is) (fits_set watches k watch games own fits j)

-- ---- beside a state

-- The table of a watch is that of its slot.
abbrev pub IsWatchOf : State → Slot → Option Watched → Type 0
IsWatchOf s slot watch = option_map table_in watch ≡ table_of s.shared.base.games slot

pub watches_of : (s : State) (watches : List (Option Watched)) → tables_in watches ≡ tables_of s.shared.base.games s.slots → (k : ℕ) → IsWatchOf s (slot_at s.slots k) (in_slot watches k)
watches_of s watches same k =
    sym (in_mapped table_in watches k) ∙ ap (λ (tables : List (Option HitTable)). in_slot tables k) same ∙ in_tables s.shared.base.games s.slots k

-- There are as many slots.
pub slots_count : (s : State) (watches : List (Option Watched)) → tables_in watches ≡ tables_of s.shared.base.games s.slots → length s.slots ≡ length watches
slots_count s watches same =
    sym (length-map s.slots (table_of s.shared.base.games)) ∙ ap (λ (tables : List (Option HitTable)). length tables) (sym same) ∙ length-map watches (option_map table_in)

-- The hits that are in of a watch are those of the tree that its slot shows.
pub watch_hits : (s : State) (board : Packed) (plies : Plies) (watch : Watched) → IsWatchOf s (shows board) (Some watch) → plies ≡ s.seat.filter → length plies ≡ length watch.games
    → hits_in (under plies watch.games) ≡ shown_hits s board
watch_hits s board plies watch is same count =
    let query : PosQuery = exactly_on board in
    let hits : hits_of watch.games ≡ map (hit_of_game query) s.shared.base.games =
    ap (λ (table : HitTable). table.hits) (same_Some (table_in watch) (record { board = board; hits = map (hit_of_game query) s.shared.base.games }) is) in
    hits_are query plies watch.games s.shared.base.games hits count ∙ ap (λ (p : Plies). tree_hits query p s.shared.base.games) same

-- So are those of one that is new, by the hits of all games.
pub new_hits : (s : State) (query : PosQuery) (board : Packed) (plies : Plies) (hits : List (Option GameHit)) → hits ≡ map (hit_of_game query) s.shared.base.games → exactly_on board ≡ query → plies ≡ s.seat.filter
    → length hits ≡ length plies → hits_in (under plies (all_out hits)) ≡ shown_hits s board
new_hits s query board plies hits are on same count =
    hits_are query plies (all_out hits) s.shared.base.games (hits_out hits ∙ are) (sym count ∙ sym (length-map hits (λ (hit : Option GameHit). record { hit = hit; is_in = false })))
    ∙ ap₂ (λ (q : PosQuery) (p : Plies). tree_hits q p s.shared.base.games) (sym on) same

-- ---- slots of which one is another one

pub tables_with_slot : (s : State) (watches : List (Option Watched)) (k : ℕ) (slot : Slot) (watch : Option Watched) → tables_in watches ≡ tables_of s.shared.base.games s.slots → IsWatchOf s slot watch
    → tables_in (slice_set watches k watch) ≡ tables_of s.shared.base.games (slice_set s.slots k slot)
tables_with_slot s watches k slot watch same own =
    map-set (option_map table_in) watches k watch
    ∙ ap₂ (λ (tables : List (Option HitTable)) (table : Option HitTable). slice_set tables k table) same own
    ∙ sym (map-set (table_of s.shared.base.games) s.slots k slot)

-- The watch of a new one.
pub new_watch : (s : State) (query : PosQuery) (board : Packed) (plies : Plies) (hits : List (Option GameHit)) → hits ≡ map (hit_of_game query) s.shared.base.games → exactly_on board ≡ query
    → IsWatchOf s (shows board) (Some (record { board = board; games = under plies (all_out hits) }))
new_watch s query board plies hits are on =
    ap (λ (l : List (Option GameHit)). Some (record { board = board; hits = l }))
    (hits_kept plies (all_out hits) ∙ hits_out hits ∙ are ∙ ap (λ (q : PosQuery). map (hit_of_game q) s.shared.base.games) (sym on))
