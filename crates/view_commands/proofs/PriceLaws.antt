-- What the hits of all games cost, and what they are so far.
use Rattle.std.proofs.Common.{◌≡◌, ◌<◌, ◌≤◌, ◌+◌, ℕ, List, [], ◌∷◌, ◌++◌, Option, Some, None, length, map, get_or, take, refl, sym, ap, ap₂, ◌∙◌, arith}
use Rattle.std.proofs.lemmas.List.{length-map, map-append, take_all}
use Rattle.std.specs.Prelude.{if◌then◌else◌, slice_get}
use Rattle.base_core.proofs.GamesLaws.{at-map}
use Rattle.base_core.proofs.Lists.{get_some, take_next}
use Rattle.base_core.specs.Base.{Held}
use Rattle.base_core.specs.Entries.{extent_of, sig_in}
use Rattle.base_core.specs.Represents.{Kept, extents_of, sigs_of}
use Rattle.game_filter.specs.declared.op.Op.TheVariants.{Ignore}
use Rattle.pos_index.specs.Hits.{Place, places_in}
use Rattle.game_search.specs.Questions.{cost_of}
use Rattle.pos_search.specs.Searching.{are_read, is_read}
use Rattle.pos_search.proofs.TellingLemmas.{read_at}
use Rattle.shell_state.specs.Slots.{hit_of_game}
use Rattle.sig_index.specs.Costs.{price_by}
use Rattle.sig_index.specs.Games.{extent_in}
use Rattle.sig_index.specs.declared.pos_query.PosQuery.{PosQuery}
use Rattle.sig_index.specs.declared.signature.Sig.{Sig}
use Rattle.sig_index.proofs.CostLemmas.{asked_all, asked_more, price_front, price_more}
use Rattle.tree_rows.specs.declared.hit.GameHit.{GameHit}

-- The price of the first games, and of all.
abbrev pub price_of_first : PosQuery → List (List Place) → Kept → List (Option ℕ) → ℕ → ℕ
price_of_first query rows kept plies i = price_by (cost_of Ignore) (take i (are_read query rows (sigs_of kept))) (extents_of kept) plies

abbrev pub price_of_all : PosQuery → List (List Place) → Kept → List (Option ℕ) → ℕ
price_of_all query rows kept plies = price_by (cost_of Ignore) (are_read query rows (sigs_of kept)) (extents_of kept) plies

-- One game more.
pub asks_more : (query : PosQuery) (rows : List (List Place)) (kept : Kept) (plies : List (Option ℕ)) (i first old new : ℕ) → i < length kept.entries → length plies ≡ length kept.entries
    → old ≤ first + price_of_first query rows kept plies i
    → ((sig : Sig) → slice_get (sigs_of kept) i ≡ Some sig → new ≤ old + (if is_read query (places_in rows i) sig then (extent_in (extents_of kept) i).len else 0))
    → new ≤ first + price_of_first query rows kept plies (i + 1)
asks_more query rows kept plies i first old new here count before asks =
    let e = get_some kept.entries i here in
    let at = at-map sig_in kept.entries i e.0 e.1 in
    let extents = extents_of kept in
    let reads = are_read query rows (sigs_of kept) in
    let read = is_read query (places_in rows i) (sig_in e.0) in
    let cost = cost_of Ignore in
    asked_more first old new (price_by cost (take i reads) extents plies) (cost read (extent_in extents i) (get_or plies i None)) (cost read (extent_in extents i) (get_or plies i None))
    (price_by cost (take (i + 1) reads) extents plies) before (asks (sig_in e.0) at) refl
    (price_more cost reads extents plies i read (read_at query rows (sigs_of kept) i (sig_in e.0) at) (omega (arith, here, length-map kept.entries extent_of)) (omega (arith, here, count)))

-- No more than of all.
pub asks_all : (query : PosQuery) (rows : List (List Place)) (kept : Kept) (plies : List (Option ℕ)) (i first new : ℕ) → new ≤ first + price_of_first query rows kept plies i
    → new ≤ first + price_of_all query rows kept plies
asks_all query rows kept plies i first new asks =
    asked_all first new (price_of_first query rows kept plies i) (price_of_all query rows kept plies) asks (price_front (cost_of Ignore) (are_read query rows (sigs_of kept)) (extents_of kept) plies i)

-- The hits with one game more, and of all.
pub hits_next : (query : PosQuery) (games : List Held) (i : ℕ) (held : Held) (hits hits' : List (Option GameHit)) (hit : Option GameHit) → slice_get games i ≡ Some held
    → hits ≡ map (hit_of_game query) (take i games) → hit ≡ hit_of_game query held → hits' ≡ hits ++ hit ∷ [] → hits' ≡ map (hit_of_game query) (take (i + 1) games)
hits_next query games i held hits hits' hit at so_far is push =
    push ∙ ap₂ (λ (l : List (Option GameHit)) (h : Option GameHit). l ++ h ∷ []) so_far is
    ∙ sym (map-append (hit_of_game query) (take i games) (held ∷ []))
    ∙ ap (map (hit_of_game query)) (sym (take_next games i held at))

pub hits_all : (query : PosQuery) (games : List Held) (i : ℕ) (hits : List (Option GameHit)) → length games ≤ i → hits ≡ map (hit_of_game query) (take i games) → hits ≡ map (hit_of_game query) games
hits_all query games i hits done so_far = so_far ∙ ap (map (hit_of_game query)) (take_all i games done)
