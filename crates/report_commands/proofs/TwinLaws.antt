-- Laws of `twins`.
use Rattle.std.proofs.Common.{◌≡◌, ◌+◌, ℕ, List, [], ◌∷◌, ◌++◌, refl, ◌∙◌, sym, subst, filter, Option, ap, suc, length, map, sum_by, ap₂, inl, inr, arith, Some, true}
use Rattle.std.proofs.lemmas.Bool.{cases_Bool}
use Rattle.std.proofs.lemmas.List.{length-map}
use Rattle.std.proofs.lemmas.List.Sums.{sum_by-cons}
use Rattle.std.specs.List.{range_with_len}
use Rattle.std.specs.Prelude.{Bool, ◌&&◌, nat_le, not}
use Rattle.base_core.proofs.GamesLaws.{heads-are}
use Rattle.base_core.specs.Base.{Base, Held}
use Rattle.base_core.specs.Edited.{ChangedHeads, Does}
use Rattle.base_core.specs.Edits.{deleted}
use Rattle.base_core.specs.Entries.{extent_of, head_of}
use Rattle.base_core.specs.Represents.{Kept, Represents, extents_of, heads_of}
use Rattle.base_files.specs.Seen.{Seen}
use Rattle.base_files.specs.declared.extent.Extent.{Extent}
use Rattle.command_runs.specs.Counts.{counts}
use Rattle.game_tree.specs.Game.{GameTree}
use Rattle.game_tree.specs.declared.head.Head.{Head}
use Rattle.index_entry.specs.declared.entry.Entry.{Entry}
use Rattle.pos_index.specs.Hits.{rows_told}
use Rattle.sig_index.specs.Games.{extent_in, head_in, Holds}
use Rattle.sig_index.specs.declared.pos_query.PosQuery.{PosQuery}
use Rattle.sig_index.specs.declared.signature.Sig.{Sig}
use Rattle.twin_games.specs.Asking.{agreeing, is_shared, price}
use Rattle.twin_games.specs.Causes.{HasTwinCause}
use Rattle.twin_games.specs.Twins.{twins_of}
use Rattle.twin_games.specs.declared.fault.TwinError.{TwinError}
use Rattle.twin_games.specs.declared.fault.TwinError.TheVariants as twins
use Rattle.filter_seat.specs.declared.saved.SavedFilter.{SavedFilter}
use Rattle.report_commands.proofs.UntaggedLaws.{twins_untagged}
use Rattle.report_commands.specs.Ends.{Marked, all_deleted, halt_of_twins}
use Rattle.report_commands.specs.Twins.{with_deleted, found_twins, twins_price}
use Rattle.shell_state.proofs.IndexLaws.{index_stays}
use Rattle.shell_state.proofs.CarryLaws.{beside_edited}
use Rattle.shell_state.proofs.EditedLaws.{fits_count, same_count, tables_fit_count}
use Rattle.shell_state.proofs.HoldingLaws.{fetch_device, fetch_why}
use Rattle.shell_state.proofs.PriceLaws.{by_entries}
use Rattle.shell_state.proofs.Quietly.{held_by}
use Rattle.shell_state.proofs.TableLaws.{hits_changed_at, hits_on, tables_are}
use Rattle.shell_state.specs.Ends.{IsDevice}
use Rattle.shell_state.specs.Passing.{len_if}
use Rattle.shell_state.specs.Stands.{Stands, Fits, WhyHalt, looks_in, Holding, Tables, TablesFit}
use Rattle.shell_state.specs.State.{State, games_of}
use Rattle.shell_state.specs.Work.{Look}

-- Marking one game more.
one_more : (games : List ℕ) (game : ℕ) (base : Base) → all_deleted (games ++ game ∷ []) base ≡ deleted game (all_deleted games base)
one_more [] game base = refl
one_more (first ∷ games) game base = one_more games game (deleted first base)

heads_join : (old mid new : Kept) → ChangedHeads old mid → ChangedHeads mid new → ChangedHeads old new
heads_join old mid new a b = record {
  header = b.header ∙ a.header;
  names = b.names ∙ a.names;
  extents = b.extents ∙ a.extents;
  sigs = b.sigs ∙ a.sigs;
  end = b.end ∙ a.end;
  unsaved = b.unsaved;
}

pub marked_more : (games : List ℕ) (game : ℕ) (old mid new : Kept) → Marked games old mid → Does (deleted game) mid new → ChangedHeads mid new → Marked (games ++ game ∷ []) old new
marked_more [] game old mid new same does heads = (subst (λ (k : Kept). Does (deleted game) k new) same does, subst (λ (k : Kept). ChangedHeads k new) same heads)
marked_more (first ∷ games) game old mid new marked does heads = (
  λ (told : List ℕ) (base : Base) is.
      subst (λ (b : Base). Represents new told b) (sym (one_more (first ∷ games) game base)) (does told (all_deleted (first ∷ games) base) (marked.0 told base is)),
  heads_join old mid new marked.1 heads,
)

-- Trees count of marked games what they did.
pub deleted_hits : (query : PosQuery) (games : List ℕ) (base : Base) → hits_on query (all_deleted games base).games ≡ hits_on query base.games
unfolding deleted
deleted_hits query [] base = refl
deleted_hits query (game ∷ games) base =
    deleted_hits query games (deleted game base)
    ∙ hits_changed_at query (λ (held : Held). record held { head = record held.head { deleted = true } }) game base.games (λ held. refl)

-- Where the games are marked the machine stands for the state in which they are.
pub deleted_stands : (games : List ℕ) (old new : Kept) (tables : Tables) (filter : List (Option ℕ)) (saved : List SavedFilter) (seen : Seen) (s : State)
    → Marked games old new → Stands (held_by old tables filter saved) seen s → Stands (held_by new tables filter saved) seen (with_deleted s games)
deleted_stands [] old new tables filter saved seen s same st = subst (λ (k : Kept). Stands (held_by k tables filter saved) seen s) (sym same) st
deleted_stands (game ∷ games) old new tables filter saved seen s marked st = record {
  games = st.games;
  told = st.told;
  base = marked.0 st.games s.shared.base st.base;
  seat = st.seat;
  unsaved = marked.1.unsaved;
  carried = beside_edited old new seen s.shared.unsaved s.shared.carried marked.1.names st.carried;
  tables =
      let later = all_deleted (game ∷ games) s.shared.base in
      tables_are tables s.shared.index s.slots s.shared.base.games later.games st.tables
      (index_stays old new st.games s.shared.base later _ s.shared.index st.base (marked.0 st.games s.shared.base st.base) marked.1.extents refl)
      (λ query. deleted_hits query (game ∷ games) s.shared.base);
  fresh = st.fresh;
}

pub marked_fits : (games : List ℕ) (old new : Kept) (tables : Tables) (filter : List (Option ℕ)) (saved : List SavedFilter) → Marked games old new → Fits (held_by old tables filter saved) → Fits (held_by new tables filter saved)
marked_fits [] old new tables filter saved same fits = subst (λ (k : Kept). Fits (held_by k tables filter saved)) (sym same) fits
marked_fits (game ∷ games) old new tables filter saved marked fits = fits_count old new tables filter saved (same_count old new marked.1) fits

pub marked_tables_fit : (games : List ℕ) (old new : Kept) (tables : Tables) (filter : List (Option ℕ)) (saved : List SavedFilter) → Marked games old new
    → TablesFit (held_by old tables filter saved) → TablesFit (held_by new tables filter saved)
marked_tables_fit [] old new tables filter saved same fits = subst (λ (k : Kept). TablesFit (held_by k tables filter saved)) (sym same) fits
marked_tables_fit (game ∷ games) old new tables filter saved marked fits = tables_fit_count old new tables filter saved (same_count old new marked.1) fits

pub marked_end : (games : List ℕ) (old new : Kept) → Marked games old new → new.end ≡ old.end
marked_end [] old new same = ap (λ (k : Kept). k.end) same
marked_end (game ∷ games) old new marked = marked.1.end

-- ---- what is read.

-- An undeleted game is read where another undeleted one has the same names, date and result.
abbrev pub is_read : List Head → Head → Bool
is_read all head = not head.deleted && nat_le 2 (agreeing head all)

-- The lengths of the records that are read, all told, of the games with these heads.
abbrev pub shared_len : List Head → List Head → List ℕ → ℕ
shared_len all [] lens = 0
shared_len all (head ∷ heads) [] = 0
shared_len all (head ∷ heads) (len ∷ lens) = len_if (is_read all head) len + shared_len all heads lens

-- Of games whose heads and extents are those of the base from a number on.
price_from : (heads : List Head) (extents : List Extent) (first : ℕ) (later : List Head) (rest : List Extent) → length later ≡ length rest
    → ((i j : ℕ) → j ≡ first + i → head_in heads j ≡ head_in later i) → ((i j : ℕ) → j ≡ first + i → extent_in extents j ≡ extent_in rest i)
    → sum_by (λ (i : ℕ). (extent_in extents i).len) (filter (is_shared heads) (range_with_len first (length later))) ≡ shared_len heads later (map (λ (x : Extent). x.len) rest)
price_from heads extents first [] rest count head extent = refl
price_from heads extents first (h ∷ later) [] count head extent = absurd (cc)
price_from heads extents first (h ∷ later) (e ∷ rest) count head extent =
    let count' : length later ≡ length rest = cc in
    let more = price_from heads extents (first + 1) later rest count' (λ i j is. head (suc i) j (omega (arith, is))) (λ i j is. extent (suc i) j (omega (arith, is))) in
    let same : is_shared heads first ≡ is_read heads h = ap (is_read heads) (head 0 first (omega arith)) in
    let len : (extent_in extents first).len ≡ e.len = ap (λ (x : Extent). x.len) (extent 0 first (omega arith)) in
    elim (cases_Bool (is_read heads h)) [
      | inl is ↦
          rw (same ∙ is, is) (sum_by-cons (λ (i : ℕ). (extent_in extents i).len) first (filter (is_shared heads) (range_with_len (first + 1) (length later)))
          ∙ ap₂ (λ (m n : ℕ). m + n) len more)
      | inr out ↦
          let asked = sum_by (λ (i : ℕ). (extent_in extents i).len) (filter (is_shared heads) (range_with_len (first + 1) (length later))) in
          let sum : asked ≡ 0 + shared_len heads later (map (λ (x : Extent). x.len) rest) = omega (arith, more) in
          rw (same ∙ out, out) sum
    ]

lens_of : (entries : List Entry) → map (λ (x : Extent). x.len) (map extent_of entries) ≡ map (λ (e : Entry). e.len) entries
lens_of [] = refl
lens_of (e ∷ entries) = ap (λ (lens : List ℕ). e.len ∷ lens) (lens_of entries)

twins-price : (kept : Kept) → price (heads_of kept) (extents_of kept) ≡ shared_len (heads_of kept) (heads_of kept) (map (λ (e : Entry). e.len) kept.entries)
twins-price kept =
    let count : length (heads_of kept) ≡ length (extents_of kept) = length-map kept.entries (λ (e : Entry). head_of kept.names e []) ∙ sym (length-map kept.entries extent_of) in
    price_from (heads_of kept) (extents_of kept) 0 (heads_of kept) (extents_of kept) count
    (λ i j is. ap (head_in (heads_of kept)) (let same : j ≡ i = omega (arith, is) in same)) (λ i j is. ap (extent_in (extents_of kept)) (let same : j ≡ i = omega (arith, is) in same))
    ∙ ap (shared_len (heads_of kept) (heads_of kept)) (lens_of kept.entries)

-- The same over what the state tells of the games.
shared-looks : (all : List Head) (looks : List Look) → shared_len all (map (λ (x : Look). x.head) looks) (map (λ (x : Look). x.len) looks) ≡ sum_by (λ (x : Look). len_if (is_read all x.head) x.len) looks
shared-looks all [] = refl
shared-looks all (look ∷ looks) =
    ap (λ (n : ℕ). len_if (is_read all look.head) look.len + n) (shared-looks all looks) ∙ sym (sum_by-cons (λ (x : Look). len_if (is_read all x.head) x.len) look looks)

-- The search for twins asks what the command costs.
pub price_is : (holding : Holding) (plies : List (Option ℕ)) → price (heads_of holding.kept) (extents_of holding.kept) ≡ twins_price (looks_in holding) plies
price_is holding plies =
    let kept = holding.kept in
    let rows = rows_told holding.tables.index in
    twins-price kept
    ∙ ap₂ (λ (heads : List Head) (lens : List ℕ). shared_len heads heads lens)
    (sym (by_entries (λ (x : Look). x.head) kept.names (λ places e. refl) rows kept.entries))
    (sym (by_entries (λ (x : Look). x.len) kept.names (λ places e. refl) rows kept.entries))
    ∙ shared-looks (map (λ (x : Look). x.head) (looks_in holding)) (looks_in holding)

-- ---- why it ends.

pub twins_device : (e : TwinError) (games : Option (List ℕ)) (told : List ℕ) (extents : List Extent) (sigs : List Sig) (list : List GameTree) (buffer : List ℕ) (f f' : ℕ)
    → games ≡ Some told → Holds told extents sigs list → HasTwinCause e sigs extents games buffer f f' → IsDevice (halt_of_twins e)
twins_device (twins.Fetch error) games told extents sigs list buffer f f' same holds cause = fetch_device error games told extents sigs list buffer f f' same holds cause
twins_device twins.Memory games told extents sigs list buffer f f' same holds cause = tt

pub twins_why : (e : TwinError) (games : Option (List ℕ)) (extents : List Extent) (sigs : List Sig) (buffer : List ℕ) (f f' : ℕ)
    → HasTwinCause e sigs extents games buffer f f' → WhyHalt (halt_of_twins e) (counts f 0 0) (counts f' 0 0)
twins_why (twins.Fetch error) games extents sigs buffer f f' cause = fetch_why error games extents sigs buffer f f' cause
twins_why twins.Memory games extents sigs buffer f f' cause = tt

-- ---- what is found.

pub found_are : (kept : Kept) (games : List ℕ) (s : State) (found : List ℕ) (depth : ℕ) → Represents kept games s.shared.base
    → found ≡ twins_of (heads_of kept) (games_of s) depth → found ≡ found_twins s depth
found_are kept games s found depth represents is =
    is ∙ (ap (λ (heads : List Head). twins_of heads (games_of s) depth) (heads-are kept games s.shared.base represents) ∙ twins_untagged s.shared.base.games (games_of s) depth)
