-- Laws of the hits that are kept for the slots that show trees.
use Rattle.std.proofs.Common.{◌≡◌, ℕ, zero, suc, ◌+◌, ◌<◌, Bool, true, false, nat_lt, List, [], ◌∷◌, ◌++◌, length, map, Option, Some, None, option_map, refl, sym, subst, ap, ap₂, ◌∙◌, arith}
use Rattle.std.proofs.lemmas.Bool.{le-ltb, lt-ltb}
use Rattle.std.proofs.lemmas.List.{length-append, length-map, length-set, map-append, map-set}
use Rattle.std.specs.Prelude.{IfSome, if◌then◌else◌, option_and_then, slice_set}
use Rattle.base_core.specs.Base.{Held}
use Rattle.base_core.specs.Edits.{changed_at, held_of}
use Rattle.cell_core.specs.Packed.{Packed}
use Rattle.game_tree.specs.Game.{GameTree}
use Rattle.game_tree.specs.declared.head.Head.{Head}
use Rattle.sig_index.specs.declared.pos_query.PosQuery.{PosQuery}
use Rattle.shell_state.specs.Hits.{AreHits, hit_on}
use Rattle.shell_state.specs.Slots.{HitTable, Slot, exactly_on, hit_of_game, slot_at, table_in, table_of, tables_in, tables_of}
use Rattle.shell_state.specs.Slots.Slot.{empty, idle, shows}
use Rattle.shell_state.specs.Stands.{Tables, index_of, tables_by}
use Rattle.tree_live.specs.Slots.{AreBelow, in_slot}
use Rattle.tree_live.specs.Watching.{Watched, with_game}
use Rattle.tree_live.specs.declared.entry.Entry.{Entry}
use Rattle.tree_rows.specs.declared.hit.GameHit.{GameHit}

-- ---- lists of slots

-- Lists with the same in each slot are one.
pub same_slots : {T : Type 0} (a b : List (Option T)) → length a ≡ length b → ((k : ℕ) → in_slot a k ≡ in_slot b k) → a ≡ b
same_slots [] [] count each = refl
same_slots [] (y ∷ b) count each = cc
same_slots (x ∷ a) [] count each = cc
same_slots {T} (x ∷ a) (y ∷ b) count each =
    let rest : length a ≡ length b = cc in
    ap₂ (λ (z : Option T) (l : List (Option T)). z ∷ l) (each zero) (same_slots a b rest (λ k. each (suc k)))

pub in_mapped : {X Y : Type 0} (f : X → Y) (list : List (Option X)) (k : ℕ) → in_slot (map (option_map f) list) k ≡ option_map f (in_slot list k)
in_mapped f [] k = refl
in_mapped f (x ∷ list) zero = refl
in_mapped f (x ∷ list) (suc k) = in_mapped f list k

pub in_tables : (games : List Held) (slots : List Slot) (k : ℕ) → in_slot (tables_of games slots) k ≡ table_of games (slot_at slots k)
in_tables games [] k = refl
in_tables games (slot ∷ slots) zero = refl
in_tables games (slot ∷ slots) (suc k) = in_tables games slots k

-- ---- games whose hits are the same

-- The same hits on each board are the same tables.
abbrev pub hits_on : PosQuery → List Held → List (Option GameHit)
hits_on query games = map (hit_of_game query) games

pub tables_same : (games games' : List Held) → ((query : PosQuery) → hits_on query games' ≡ hits_on query games) → (slots : List Slot) → tables_of games' slots ≡ tables_of games slots
tables_same games games' same [] = refl
tables_same games games' same (empty ∷ slots) = ap (λ (l : List (Option HitTable)). None ∷ l) (tables_same games games' same slots)
tables_same games games' same (idle ∷ slots) = ap (λ (l : List (Option HitTable)). None ∷ l) (tables_same games games' same slots)
tables_same games games' same (shows board ∷ slots) =
    ap₂ (λ (hits : List (Option GameHit)) (l : List (Option HitTable)). Some (record { board = board; hits = hits }) ∷ l)
    (same (exactly_on board)) (tables_same games games' same slots)

-- A change of a game that leaves its hits.
pub hits_changed_at : (query : PosQuery) (change : Held → Held) (i : ℕ) (games : List Held) → ((held : Held) → hit_of_game query (change held) ≡ hit_of_game query held)
    → hits_on query (changed_at change i games) ≡ hits_on query games
hits_changed_at query change i [] same = refl
hits_changed_at query change zero (held ∷ games) same = ap (λ (hit : Option GameHit). hit ∷ hits_on query games) (same held)
hits_changed_at query change (suc i) (held ∷ games) same = ap (λ (hits : List (Option GameHit)). hit_of_game query held ∷ hits) (hits_changed_at query change i games same)

-- The tables of other games, by their index and their hits.
pub tables_are : (tables : Tables) (depth : Option ℕ) (slots : List Slot) (games games' : List Held) → tables ≡ tables_by depth slots games
    → option_map (index_of (map (λ (held : Held). held.game) games)) depth ≡ option_map (index_of (map (λ (held : Held). held.game) games')) depth
    → ((query : PosQuery) → hits_on query games' ≡ hits_on query games) → tables ≡ tables_by depth slots games'
tables_are tables depth slots games games' is index same =
    is ∙ ap₂ (λ (x : Option _) (hits : List (Option HitTable)). record { index = x; hits = hits }) index (sym (tables_same games games' same slots))

-- ---- a game that comes in

abbrev pub with_hit : ℕ → Option GameHit → List (Option GameHit) → List (Option GameHit)
with_hit i hit hits = if nat_lt i (length hits) then slice_set hits i hit else hits ++ hit ∷ []

-- The hits of games with one that is put among them or behind them.
hits_with : (i : ℕ) (game : Entry) (games : List Entry) → map (λ (e : Entry). e.hit) (with_game i game games) ≡ with_hit i game.hit (map (λ (e : Entry). e.hit) games)
hits_with i game games =
    by (nat_lt i (length games)) (nat_lt i (length (map (λ (e : Entry). e.hit) games))) (ap (nat_lt i) (sym (length-map games (λ (e : Entry). e.hit))))
  where
    by : (a b : Bool) → a ≡ b → map (λ (e : Entry). e.hit) (if a then slice_set games i game else games ++ game ∷ [])
        ≡ (if b then slice_set (map (λ (e : Entry). e.hit) games) i game.hit else map (λ (e : Entry). e.hit) games ++ game.hit ∷ [])
    by true true same = map-set (λ (e : Entry). e.hit) games i game
    by false false same = map-append (λ (e : Entry). e.hit) games (game ∷ [])
    by true false same = cc
    by false true same = cc

-- A table with the hit of a game that is put among the others or behind them.
table_with : (i : ℕ) (game : Entry) (table : Option HitTable) (watch : Option Watched) → option_map table_in watch ≡ table
    → option_map table_in (option_map (λ (w : Watched). record w { games = with_game i game w.games }) watch) ≡ option_map (λ (t : HitTable). record t { hits = with_hit i game.hit t.hits }) table
table_with i game table None is = ap (option_map (λ (t : HitTable). record t { hits = with_hit i game.hit t.hits })) is
table_with i game table (Some watch) is =
    ap (λ (hits : List (Option GameHit)). Some (record { board = watch.board; hits = hits })) (hits_with i game watch.games)
    ∙ ap (option_map (λ (t : HitTable). record t { hits = with_hit i game.hit t.hits })) is

-- The table of a slot over other games, where their hits are those with one that is put among them.
table_by : (i : ℕ) (hit : Option GameHit) (games games' : List Held) (slot : Slot)
    → ((board : Packed) → slot ≡ shows board → hits_on (exactly_on board) games' ≡ with_hit i hit (hits_on (exactly_on board) games))
    → option_map (λ (t : HitTable). record t { hits = with_hit i hit t.hits }) (table_of games slot) ≡ table_of games' slot
table_by i hit games games' empty put = refl
table_by i hit games games' idle put = refl
table_by i hit games games' (shows board) put = ap (λ (hits : List (Option GameHit)). Some (record { board = board; hits = hits })) (sym (put board refl))

-- What a slot shows is what is watched there: the hit for it is that on its board.
hit_there : (head : Head) (game : GameTree) (games : List Held) (slot : Slot) (board : Packed) (watch : Option Watched) → slot ≡ shows board → option_map table_in watch ≡ table_of games slot
    → option_and_then (λ (w : Watched). hit_on head game w.board) watch ≡ hit_on head game board
hit_there head game games slot board None is same = let other : table_of games slot ≡ table_of games (shows board) = ap (table_of games) is in absurd (cc)
hit_there head game games slot board (Some watch) is same =
    let table : Some (table_in watch) ≡ table_of games (shows board) = same ∙ ap (table_of games) is in
    let same_board : watch.board ≡ board = some_one (ap (option_map (λ (t : HitTable). t.board)) table) in
    ap (hit_on head game) same_board
  where
    some_one : {T : Type 0} {x y : T} → Some x ≡ Some y → x ≡ y
    some_one is = cc

-- The slots follow a game that is put among the others or behind them.
pub slots_follow : (i : ℕ) (head : Head) (game : GameTree) (hits : List (Option GameHit)) (watches watches' : List (Option Watched)) (games games' : List Held) (slots : List Slot)
    → length watches' ≡ length watches → AreHits watches head game hits
    → ((k : ℕ) → in_slot watches' k ≡ option_map (λ (w : Watched). record w { games = with_game i (record { hit = in_slot hits k; is_in = false }) w.games }) (in_slot watches k))
    → ((query : PosQuery) → hits_on query games' ≡ with_hit i (hit_of_game query (held_of head game)) (hits_on query games))
    → tables_in watches ≡ tables_of games slots → tables_in watches' ≡ tables_of games' slots
slots_follow i head game hits watches watches' games games' slots count are follow put held =
    same_slots (tables_in watches') (tables_of games' slots)
    (length-map watches' (option_map table_in) ∙ (count ∙ (sym (length-map watches (option_map table_in)) ∙ (ap (λ (l : List (Option HitTable)). length l) held
    ∙ (length-map slots (table_of games) ∙ sym (length-map slots (table_of games')))))))
    each
  where
    there : (k : ℕ) → option_map table_in (in_slot watches k) ≡ table_of games (slot_at slots k)
    there k = sym (in_mapped table_in watches k) ∙ (ap (λ (l : List (Option HitTable)). in_slot l k) held ∙ in_tables games slots k)

    each : (k : ℕ) → in_slot (tables_in watches') k ≡ in_slot (tables_of games' slots) k
    each k =
        let entry : Entry = record { hit = in_slot hits k; is_in = false } in
        in_mapped table_in watches' k ∙ (ap (option_map table_in) (follow k) ∙ (table_with i entry (table_of games (slot_at slots k)) (in_slot watches k) (there k)
        ∙ (table_by i (in_slot hits k) games games' (slot_at slots k)
        (λ board is. put (exactly_on board) ∙ ap (λ (hit : Option GameHit). with_hit i hit (hits_on (exactly_on board) games))
        (sym (are k ∙ hit_there head game games (slot_at slots k) board (in_slot watches k) is (there k))))
        ∙ sym (in_tables games' slots k))))

-- Behind the others, and in the place of one of them.
pub hits_behind : (query : PosQuery) (held : Held) (games : List Held) (i : ℕ) → i ≡ length games → hits_on query (games ++ held ∷ []) ≡ with_hit i (hit_of_game query held) (hits_on query games)
hits_behind query held games i last =
    let test : nat_lt i (length (hits_on query games)) ≡ false = ltb-past i (length (hits_on query games)) (last ∙ sym (length-map games (hit_of_game query))) in
    rw test (map-append (hit_of_game query) games (held ∷ []))
  where
    ltb-past : (i n : ℕ) → i ≡ n → nat_lt i n ≡ false
    ltb-past i n same = le-ltb i n (omega (arith, same))

pub hits_among : (query : PosQuery) (held : Held) (games : List Held) (i : ℕ) → i < length games → hits_on query (changed_at (λ (old : Held). held) i games) ≡ with_hit i (hit_of_game query held) (hits_on query games)
hits_among query held games i there =
    let test : nat_lt i (length (hits_on query games)) ≡ true = lt-ltb i (length (hits_on query games)) (omega (arith, there, length-map games (hit_of_game query))) in
    rw test (put query held games i)
  where
    put : (query : PosQuery) (held : Held) (games : List Held) (i : ℕ) → hits_on query (changed_at (λ (old : Held). held) i games) ≡ slice_set (hits_on query games) i (hit_of_game query held)
    put query held [] i = refl
    put query held (game ∷ games) zero = refl
    put query held (game ∷ games) (suc i) = ap (λ (hits : List (Option GameHit)). hit_of_game query game ∷ hits) (put query held games i)

-- ---- how many hits there are

-- Each slot that shows a tree has a hit or none for each game, also where one is put among them or behind them.
pub hits_fit : (i : ℕ) (hits : List (Option GameHit)) (watches watches' : List (Option Watched)) (games entries : ℕ)
    → ((k : ℕ) → in_slot watches' k ≡ option_map (λ (w : Watched). record w { games = with_game i (record { hit = in_slot hits k; is_in = false }) w.games }) (in_slot watches k))
    → ((n : ℕ) → n ≡ games → (if nat_lt i n then n else n + 1) ≡ entries)
    → ((k : ℕ) → IfSome (in_slot (tables_in watches) k) (λ (table : HitTable). length table.hits ≡ games))
    → (k : ℕ) → IfSome (in_slot (tables_in watches') k) (λ (table : HitTable). length table.hits ≡ entries)
hits_fit i hits watches watches' games entries follow count fits k =
    let P : Option HitTable → Type 0 = λ o. IfSome o (λ (table : HitTable). length table.hits ≡ entries) in
    let Q : Option HitTable → Type 0 = λ o. IfSome o (λ (table : HitTable). length table.hits ≡ games) in
    subst P (sym (in_mapped table_in watches' k ∙ ap (option_map table_in) (follow k))) (by (in_slot watches k) (subst Q (in_mapped table_in watches k) (fits k)))
  where
    entry : Entry
    entry = record { hit = in_slot hits k; is_in = false }

    cases : (b : Bool) (i : ℕ) (game : Entry) (all : List Entry) → length (if b then slice_set all i game else all ++ game ∷ []) ≡ (if b then length all else length all + 1)
    cases true i game all = length-set all i game
    cases false i game all = length-append all (game ∷ [])

    length_with : (i : ℕ) (game : Entry) (all : List Entry) → length (with_game i game all) ≡ (if nat_lt i (length all) then length all else length all + 1)
    length_with i game all = cases (nat_lt i (length all)) i game all

    by : (watch : Option Watched) → IfSome (option_map table_in watch) (λ (table : HitTable). length table.hits ≡ games)
        → IfSome (option_map table_in (option_map (λ (w : Watched). record w { games = with_game i entry w.games }) watch)) (λ (table : HitTable). length table.hits ≡ entries)
    by None is = tt
    by (Some watch) is =
        length-map (with_game i entry watch.games) (λ (e : Entry). e.hit) ∙ (length_with i entry watch.games ∙ count (length watch.games) (sym (length-map watch.games (λ (e : Entry). e.hit)) ∙ is))

-- ---- the hits of a game for eight slots

abbrev hit_if : Head → GameTree → List (Option Watched) → ℕ → Option GameHit
hit_if head game watches k = option_and_then (λ (watch : Watched). hit_on head game watch.board) (in_slot watches k)

-- The hit on the board of a slot.
pub hit_at : (head : Head) (game : GameTree) (watches : List (Option Watched)) (k : ℕ) (board : Option Packed) (hit : Option GameHit) → board ≡ option_map (λ (watch : Watched). watch.board) (in_slot watches k)
    → hit ≡ option_and_then (hit_on head game) board → hit ≡ hit_if head game watches k
hit_at head game watches k board hit same is = is ∙ (ap (option_and_then (hit_on head game)) same ∙ by (in_slot watches k))
  where
    by : (watch : Option Watched) → option_and_then (hit_on head game) (option_map (λ (w : Watched). w.board) watch) ≡ option_and_then (λ (w : Watched). hit_on head game w.board) watch
    by None = refl
    by (Some watch) = refl

pub eight_hits : (watches : List (Option Watched)) (head : Head) (game : GameTree) (count : ℕ) (h0 h1 h2 h3 h4 h5 h6 h7 : Option GameHit) → count ≡ 8 → AreBelow count watches
    → h0 ≡ hit_if head game watches 0 → h1 ≡ hit_if head game watches 1 → h2 ≡ hit_if head game watches 2 → h3 ≡ hit_if head game watches 3
    → h4 ≡ hit_if head game watches 4 → h5 ≡ hit_if head game watches 5 → h6 ≡ hit_if head game watches 6 → h7 ≡ hit_if head game watches 7
    → AreHits watches head game (h0 ∷ h1 ∷ h2 ∷ h3 ∷ h4 ∷ h5 ∷ h6 ∷ h7 ∷ [])
eight_hits watches head game count h0 h1 h2 h3 h4 h5 h6 h7 eight below i0 i1 i2 i3 i4 i5 i6 i7 = each
  where
    each : AreHits watches head game (h0 ∷ h1 ∷ h2 ∷ h3 ∷ h4 ∷ h5 ∷ h6 ∷ h7 ∷ [])
    each zero = i0
    each (suc zero) = i1
    each (suc (suc zero)) = i2
    each (suc (suc (suc zero))) = i3
    each (suc (suc (suc (suc zero)))) = i4
    each (suc (suc (suc (suc (suc zero))))) = i5
    each (suc (suc (suc (suc (suc (suc zero)))))) = i6
    each (suc (suc (suc (suc (suc (suc (suc zero))))))) = i7
    each (suc (suc (suc (suc (suc (suc (suc (suc k)))))))) =
        sym (ap (option_and_then (λ (watch : Watched). hit_on head game watch.board)) (below (suc (suc (suc (suc (suc (suc (suc (suc k)))))))) (omega (arith, eight))))
