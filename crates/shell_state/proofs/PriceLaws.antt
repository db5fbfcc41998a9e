-- Laws of prices: what a command looks at of what the machine holds is what it looks at of the base.
use Rattle.std.proofs.Common.{◌≡◌, ◌≤◌, ◌+◌, ◌&&◌, ℕ, zero, suc, Bool, List, [], ◌∷◌, length, map, slice_get, Option, None, Some, option_map, refl, sym, ap, ap₂, ◌∙◌, arith}
use Rattle.std.proofs.lemmas.List.Sums.{sum_by-cons}
use Rattle.std.specs.Prelude.{sum_by}
use Rattle.base_core.proofs.GamesLaws.{heads-are}
use Rattle.base_core.specs.Base.{Held}
use Rattle.base_core.specs.Entries.{head_of, sig_in, extent_of}
use Rattle.base_core.specs.Represents.{Keeps}
use Rattle.base_files.specs.Seen.{Seen}
use Rattle.game_filter.specs.Search.{looks_at}
use Rattle.game_filter.specs.declared.op.Op.{Op}
use Rattle.game_tree.specs.Head.{without_tags}
use Rattle.game_tree.specs.declared.head.Head.{Head}
use Rattle.index_entry.specs.declared.entry.Entry.{Entry}
use Rattle.name_base.specs.NameLists.{NameLists}
use Rattle.pos_index.specs.Hits.{Index, Place, rows_told}
use Rattle.game_search.specs.Questions.{cost_of}
use Rattle.pos_search.specs.Searching.{are_read, is_read}
use Rattle.sig_index.specs.Costs.{price_by}
use Rattle.sig_index.specs.declared.pos_query.PosQuery.{PosQuery}
use Rattle.sig_index.specs.Signature.{sig_of}
use Rattle.sig_index.specs.declared.signature.Sig.{Sig}
use Rattle.base_files.specs.declared.extent.Extent.{Extent}
use Rattle.shell_state.proofs.IndexLaws.{index_is}
use Rattle.shell_state.proofs.Quietly.{filter_is}
use Rattle.shell_state.specs.Passing.{len_if, filtered_len, len_if_in, len_in, searched_len}
use Rattle.shell_state.specs.Stands.{Holding, Stands, index_of, look_at, looks_at_all, looks_in}
use Rattle.shell_state.specs.State.{State}
use Rattle.shell_state.specs.Work.{Look, indexed_places, look_of, looks_of}
use Rattle.shell_state.specs.Meeting.{position_len}

-- ---- what is looked at of what is held, and in the state

-- The rows of an index of games to a depth; none without one.
abbrev rows_by : Option ℕ → List Held → List (List Place)
rows_by depth all = rows_told (option_map (index_of (map (λ (held : Held). held.game) all)) depth)

-- The same of one game.
one_look : (names : NameLists) (told : List ℕ) (depth : Option ℕ) (e : Entry) (held : Held) → Keeps names told e held → head_of names e [] ≡ without_tags held.head
    → look_at names (indexed_places depth held.game) e ≡ look_of depth held
one_look names told depth e held here head =
    let places : List Place = indexed_places depth held.game in
    ap (λ (n : ℕ). record { len = n; sig = sig_in e; head = head_of names e []; places = places }) (sym here.says.len)
    ∙ ap (λ (s : Sig). record { len = held.len; sig = s; head = head_of names e []; places = places }) here.signed
    ∙ ap (λ (h : Head). record { len = held.len; sig = sig_of held.game; head = h; places = places }) head

next_look : (names : NameLists) (depth : Option ℕ) (e : Entry) (held : Held) (es : List Entry) (all : List Held)
    → look_at names (indexed_places depth held.game) e ≡ look_of depth held → looks_at_all names (rows_by depth all) es ≡ map (look_of depth) all
    → looks_at_all names (rows_by depth (held ∷ all)) (e ∷ es) ≡ look_of depth held ∷ map (look_of depth) all
next_look names None e held es all same rest = ap₂ (λ (look : Look) (looks : List Look). look ∷ looks) same rest
next_look names (Some depth) e held es all same rest = ap₂ (λ (look : Look) (looks : List Look). look ∷ looks) same rest

pub none_looked : (names : NameLists) (rows : List (List Place)) → looks_at_all names rows [] ≡ []
none_looked names [] = refl
none_looked names (row ∷ rows) = refl

looks_each : (names : NameLists) (told : List ℕ) (depth : Option ℕ) (es : List Entry) (all : List Held) → length es ≡ length all
    → ((i : ℕ) (e : Entry) (held : Held) → slice_get es i ≡ Some e → slice_get all i ≡ Some held → Keeps names told e held)
    → map (λ (e : Entry). head_of names e []) es ≡ map (λ (held : Held). without_tags held.head) all
    → looks_at_all names (rows_by depth all) es ≡ map (look_of depth) all
looks_each names told depth [] [] count each heads = none_looked names (rows_by depth [])
looks_each names told depth [] (held ∷ all) count each heads = cc
looks_each names told depth (e ∷ es) [] count each heads = cc
looks_each names told depth (e ∷ es) (held ∷ all) count each heads =
    let count' : length es ≡ length all = cc in
    let head : head_of names e [] ≡ without_tags held.head = cc in
    let heads' : map (λ (e : Entry). head_of names e []) es ≡ map (λ (held : Held). without_tags held.head) all = cc in
    next_look names depth e held es all (one_look names told depth e held (each zero e held refl refl) head)
    (looks_each names told depth es all count' (λ i e' held' there is. each (suc i) e' held' there is) heads')

looks_are : (holding : Holding) (seen : Seen) (s : State) → Stands holding seen s → looks_in holding ≡ looks_of s.shared
looks_are holding seen s st =
    ap (λ (index : Option Index). looks_at_all holding.kept.names (rows_told index) holding.kept.entries) (index_is st)
    ∙ looks_each holding.kept.names st.games s.shared.index holding.kept.entries s.shared.base.games st.base.count st.base.each (heads-are holding.kept st.games s.shared.base st.base)

-- The price by what is held is that in the state for which the machine stands.
pub price_is : (price : List Look → List (Option ℕ) → ℕ) (holding : Holding) (seen : Seen) (s : State) → Stands holding seen s
    → price (looks_in holding) holding.seat.filter ≡ price (looks_of s.shared) s.seat.filter
price_is price holding seen s st = ap₂ price (looks_are holding seen s st) (filter_is st)

pub asked_told : (price : List Look → List (Option ℕ) → ℕ) (holding : Holding) (seen : Seen) (s : State) (old new : ℕ) → Stands holding seen s
    → new ≤ old + price (looks_in holding) holding.seat.filter → new ≤ old + price (looks_of s.shared) s.seat.filter
asked_told price holding seen s old new st asked = omega (arith, price_is price holding seen s st, asked)

-- ---- prices by lengths, signatures and heads alone

-- What is looked at by them alone is the same whatever an index has.
pub by_entries : {X : Type 0} (f : Look → X) (names : NameLists) → ((places : List Place) (e : Entry) → f (look_at names places e) ≡ f (look_at names [] e))
    → (rows : List (List Place)) (entries : List Entry) → map f (looks_at_all names rows entries) ≡ map (λ (e : Entry). f (look_at names [] e)) entries
by_entries f names same rows [] = ap (map f) (none_looked names rows)
by_entries {X} f names same [] (e ∷ entries) = ap (λ (xs : List X). f (look_at names [] e) ∷ xs) (by_entries f names same [] entries)
by_entries {X} f names same (row ∷ rows) (e ∷ entries) =
    ap₂ (λ (x : X) (xs : List X). x ∷ xs) (same row e) (by_entries f names same rows entries)

-- The game at a place: the length of its record.
pub len_looks : (names : NameLists) (rows : List (List Place)) (entries : List Entry) (game : ℕ) → len_in (λ (e : Entry). e.len) (slice_get entries game) ≡ len_in (λ (x : Look). x.len) (slice_get (looks_at_all names rows entries) game)
len_looks names rows [] game = ap (λ (xs : List Look). len_in (λ (x : Look). x.len) (slice_get xs game)) (sym (none_looked names rows))
len_looks names [] (e ∷ entries) zero = refl
len_looks names [] (e ∷ entries) (suc game) = len_looks names [] entries game
len_looks names (row ∷ rows) (e ∷ entries) zero = refl
len_looks names (row ∷ rows) (e ∷ entries) (suc game) = len_looks names rows entries game

-- All games, by the places of their records and by their entries.
extents_len : (entries : List Entry) → sum_by (λ (x : Extent). x.len) (map extent_of entries) ≡ sum_by (λ (e : Entry). e.len) entries
extents_len [] = refl
extents_len (e ∷ entries) =
    sum_by-cons (λ (x : Extent). x.len) (extent_of e) (map extent_of entries) ∙ (ap (λ (n : ℕ). e.len + n) (extents_len entries)
    ∙ sym (sum_by-cons (λ (x : Entry). x.len) e entries))

sum_looks : (names : NameLists) (rows : List (List Place)) (entries : List Entry) → sum_by (λ (e : Entry). e.len) entries ≡ sum_by (λ (x : Look). x.len) (looks_at_all names rows entries)
sum_looks names rows [] = ap (sum_by (λ (x : Look). x.len)) (sym (none_looked names rows))
sum_looks names [] (e ∷ entries) =
    sum_by-cons (λ (d : Entry). d.len) e entries ∙ (ap (λ (n : ℕ). e.len + n) (sum_looks names [] entries)
    ∙ sym (sum_by-cons (λ (x : Look). x.len) (look_at names [] e) (looks_at_all names [] entries)))
sum_looks names (row ∷ rows) (e ∷ entries) =
    sum_by-cons (λ (d : Entry). d.len) e entries ∙ (ap (λ (n : ℕ). e.len + n) (sum_looks names rows entries)
    ∙ sym (sum_by-cons (λ (x : Look). x.len) (look_at names row e) (looks_at_all names rows entries)))

pub price_of_all : (holding : Holding) → sum_by (λ (x : Extent). x.len) (map extent_of holding.kept.entries) ≡ sum_by (λ (x : Look). x.len) (looks_in holding)
price_of_all holding = extents_len holding.kept.entries ∙ sum_looks holding.kept.names (rows_told holding.tables.index) holding.kept.entries

-- The games that are in.
pub filtered_looks : (plies : List (Option ℕ)) (names : NameLists) (rows : List (List Place)) (entries : List Entry)
    → filtered_len (λ (e : Entry). e.len) plies entries ≡ filtered_len (λ (x : Look). x.len) plies (looks_at_all names rows entries)
filtered_looks [] names rows entries = refl
filtered_looks (ply ∷ plies) names rows [] = ap (filtered_len (λ (x : Look). x.len) (ply ∷ plies)) (sym (none_looked names rows))
filtered_looks (ply ∷ plies) names [] (e ∷ entries) = ap (λ (n : ℕ). len_if_in ply e.len + n) (filtered_looks plies names [] entries)
filtered_looks (ply ∷ plies) names (row ∷ rows) (e ∷ entries) = ap (λ (n : ℕ). len_if_in ply e.len + n) (filtered_looks plies names rows entries)

-- Those that a search looks at and that pass a test of signatures.
pub searched_looks : (test : Sig → Bool) (op : Op) (plies : List (Option ℕ)) (names : NameLists) (rows : List (List Place)) (entries : List Entry)
    → searched_len (λ (e : Entry). e.len) (λ (e : Entry). test (sig_in e)) op plies entries ≡ searched_len (λ (x : Look). x.len) (λ (x : Look). test x.sig) op plies (looks_at_all names rows entries)
searched_looks test op [] names rows entries = refl
searched_looks test op (ply ∷ plies) names rows [] = ap (searched_len (λ (x : Look). x.len) (λ (x : Look). test x.sig) op (ply ∷ plies)) (sym (none_looked names rows))
searched_looks test op (ply ∷ plies) names [] (e ∷ entries) =
    ap (λ (n : ℕ). len_if (looks_at op ply && test (sig_in e)) e.len + n) (searched_looks test op plies names [] entries)
searched_looks test op (ply ∷ plies) names (row ∷ rows) (e ∷ entries) =
    ap (λ (n : ℕ). len_if (looks_at op ply && test (sig_in e)) e.len + n) (searched_looks test op plies names rows entries)

-- ---- what a search for a position asks is what its command costs

search-price : (op : Op) (query : PosQuery) (plies : List (Option ℕ)) (names : NameLists) (rows : List (List Place)) (entries : List Entry)
    → price_by (cost_of op) (are_read query rows (map sig_in entries)) (map extent_of entries) plies ≡ position_len op query (looks_at_all names rows entries) plies
search-price op query [] names [] [] = refl
search-price op query [] names (row ∷ rows) [] = refl
search-price op query [] names [] (e ∷ entries) = refl
search-price op query [] names (row ∷ rows) (e ∷ entries) = refl
search-price op query (old ∷ plies) names [] [] = refl
search-price op query (old ∷ plies) names (row ∷ rows) [] = refl
search-price op query (old ∷ plies) names [] (e ∷ entries) =
    ap (λ (n : ℕ). len_if (looks_at op old && is_read query [] (sig_in e)) e.len + n) (search-price op query plies names [] entries)
search-price op query (old ∷ plies) names (row ∷ rows) (e ∷ entries) =
    ap (λ (n : ℕ). len_if (looks_at op old && is_read query row (sig_in e)) e.len + n) (search-price op query plies names rows entries)

pub position_price : (op : Op) (query : PosQuery) (plies : List (Option ℕ)) (holding : Holding)
    → price_by (cost_of op) (are_read query (rows_told holding.tables.index) (map sig_in holding.kept.entries)) (map extent_of holding.kept.entries) plies ≡ position_len op query (looks_in holding) plies
position_price op query plies holding = search-price op query plies holding.kept.names (rows_told holding.tables.index) holding.kept.entries
