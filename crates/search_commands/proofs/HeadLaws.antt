-- Laws of the search of heads: what the machine looks at says what the heads of the base's games do.
use Rattle.std.proofs.Common.{◌≡◌, ℕ, refl, suc, List, [], ◌∷◌, length, map, Option, Some, ap, ap₂, ◌∙◌, arith}
use Rattle.std.specs.Prelude.{slice_get, min}
use Rattle.base_core.proofs.GamesLaws.{heads-are}
use Rattle.base_core.specs.Base.{Held, Base}
use Rattle.base_core.specs.Entries.{sig_in}
use Rattle.base_core.specs.Represents.{Keeps, Kept, Represents, heads_of, sigs_of}
use Rattle.base_files.specs.Seen.{Seen}
use Rattle.game_filter.proofs.Searches.{length-searched}
use Rattle.game_filter.specs.Search.{searched}
use Rattle.game_filter.specs.declared.op.Op.{Op}
use Rattle.game_tree.specs.Head.{without_tags}
use Rattle.game_tree.specs.Replay.{plies_of}
use Rattle.game_tree.specs.declared.head.Head.{Head}
use Rattle.head_search.specs.Matching.{first_of, head_matches, firsts_of}
use Rattle.index_entry.specs.declared.entry.Entry.{Entry}
use Rattle.name_base.specs.NameLists.{NameLists}
use Rattle.sig_index.specs.declared.head_query.HeadQuery.{HeadQuery}
use Rattle.sig_index.proofs.SigOf.{parts}
use Rattle.filter_seat.specs.declared.saved.SavedFilter.{SavedFilter}
use Rattle.search_commands.specs.Searching.{first_by_head, search_header_work}
use Rattle.shell_state.proofs.Quietly.{filter_is, held_by, Plies, fits_by, saved_is, seats_are}
use Rattle.shell_state.specs.Lines.{filter_line}
use Rattle.shell_state.specs.Stands.{Stands, Fits, Quiet, Tables}
use Rattle.shell_state.specs.State.{State}

-- No item of a query looks at the tags.
untagged : (query : HeadQuery) (head : Head) (plies : ℕ) → first_of query (without_tags head) plies ≡ first_of query head plies
unfolding head_matches
untagged query head plies = refl

-- Each game's first ply is that of its head and its plies.
firsts-each : (query : HeadQuery) (names : NameLists) (told : List ℕ) (entries : List Entry) (games : List Held) → length entries ≡ length games
    → ((i : ℕ) (e : Entry) (held : Held) → slice_get entries i ≡ Some e → slice_get games i ≡ Some held → Keeps names told e held)
    → firsts_of query (map (λ (held : Held). without_tags held.head) games) (map sig_in entries) ≡ map (first_by_head query) games
firsts-each query names told [] [] same each = refl
firsts-each query names told [] (held ∷ games) same each = absurd (omega (arith, same))
firsts-each query names told (e ∷ entries) [] same each = absurd (omega (arith, same))
firsts-each query names told (e ∷ entries) (held ∷ games) same each =
    let plies : e.plies ≡ min (plies_of held.game) 1023 = (parts held.game (sig_in e) (each 0 e held refl refl).signed).plies in
    ap₂ (λ (p : Option ℕ) (rest : List (Option ℕ)). p ∷ rest)
    (untagged query held.head e.plies ∙ ap (λ (n : ℕ). first_of query held.head n) plies)
    (firsts-each query names told entries games (omega (arith, same)) (λ i d other left right. each (suc i) d other left right))

-- The first plies that the search finds are those of the base's games.
firsts-are : (query : HeadQuery) (kept : Kept) (told : List ℕ) (base : Base) → Represents kept told base
    → firsts_of query (heads_of kept) (sigs_of kept) ≡ map (first_by_head query) base.games
firsts-are query kept told base is =
    ap (λ (hs : List Head). firsts_of query hs (sigs_of kept)) (heads-are kept told base is)
    ∙ firsts-each query kept.names told kept.entries base.games is.count is.each

-- `search OP header`: the filter after it, and its line.
pub quiet_heads : (kept : Kept) (tables : Tables) (filter later : Plies) (saved : List SavedFilter) (op : Op) (query : HeadQuery) (line : List ℕ)
    → later ≡ searched op (firsts_of query (heads_of kept) (sigs_of kept)) filter → line ≡ filter_line later → Fits (held_by kept tables filter saved)
    → Quiet (held_by kept tables filter saved) (search_header_work op query) (held_by kept tables later saved) line
quiet_heads kept tables filter later saved op query line found written fits =
    let after : (s : State) (told : List ℕ) → Represents kept told s.shared.base → filter ≡ s.seat.filter → later ≡ searched op (map (first_by_head query) s.shared.base.games) s.seat.filter =
    λ s told is same.
    found ∙ ap (λ (firsts : Plies). searched op firsts filter) (firsts-are query kept told s.shared.base is)
    ∙ ap (λ (plies : Plies). searched op (map (first_by_head query) s.shared.base.games) plies) same in
    record {
      stands = λ (seen : Seen) (s : State) (st : Stands (held_by kept tables filter saved) seen s).
          record { games = st.games; told = st.told; base = st.base; seat = seats_are (record { filter = later; saved = saved }) _ (after s st.games st.base (filter_is st)) (saved_is st); unsaved = st.unsaved; carried = st.carried; tables = st.tables; fresh = st.fresh };
      text = λ (seen : Seen) (s : State) (st : Stands (held_by kept tables filter saved) seen s).
          written ∙ ap (λ (plies : Plies). filter_line plies) (after s st.games st.base (filter_is st));
      fits = fits_by (held_by kept tables filter saved) (held_by kept tables later saved) refl refl
          (ap (λ (plies : Plies). length plies) found ∙ length-searched op (firsts_of query (heads_of kept) (sigs_of kept)) filter) fits;
      tables = λ is. is;
      base = λ is. is;
      end = refl;
    }
