-- What a search of all games asks of each: which games it has read, and what is known of the others.
use Rattle.std.proofs.Common.{◌≡◌, ℕ, suc, ◌+◌, Bool, false, not, ◌&&◌, List, [], ◌∷◌, Option, None, Some, length, refl, sym, subst, ap, ap₂, ◌∙◌, arith}
use Rattle.std.specs.Prelude.{is_none}
use Rattle.base_files.specs.declared.extent.Extent.{Extent}
use Rattle.cell_core.specs.declared.step.Move.{Move}
use Rattle.game_search.specs.Questions.{AreRight, Unread, reads_from}
use Rattle.game_tree.specs.Game.{GameTree}
use Rattle.game_tree.specs.Replay.{next_at}
use Rattle.pos_index.specs.Hits.{Index, IndexesAll, Place, places_in, rows_told}
use Rattle.sig_index.specs.Games.{Holds}
use Rattle.sig_index.specs.declared.pos_query.PosQuery.{PosQuery}
use Rattle.sig_index.specs.declared.signature.Sig.{Sig}
use Rattle.pos_search.specs.Matching.{first_if_aside, first_of, first_on_main, hit_of}
use Rattle.pos_search.specs.Passing.{passes}
use Rattle.pos_search.specs.Searching.{are_read, hit_told, is_out, is_read, ply_of}
use Rattle.pos_search.specs.Telling.{Asked, TellsHit, first_asked, hits_told, tells}
use Rattle.pos_search.proofs.SearchLemmas.{ply_by}
use Rattle.pos_search.proofs.OutLemmas.{unread_out}
use Rattle.pos_search.proofs.TellingLemmas.{tells_hit}

-- What a query has read of games with these places.
abbrev pub unread_of : PosQuery → List (List Place) → Unread
unread_of query rows = record { reads = λ i sig. is_read query (places_in rows i) sig; ply = λ i. ply_of (hit_told query (places_in rows i)) }

pub tells_so : (asked : Asked) (query : PosQuery) (rows : List (List Place)) → asked.query ≡ query → asked.told ≡ hits_told query rows → tells asked (unread_of query rows)
tells_so asked query rows same told = (
  rows,
  record {
    told = told ∙ ap (λ (q : PosQuery). hits_told q rows) (sym same);
    reads = λ i sig. ap (λ (q : PosQuery). is_read q (places_in rows i) sig) (sym same);
    ply = λ i. ap (λ (q : PosQuery). ply_of (hit_told q (places_in rows i))) (sym same);
  },
)

-- What is known of a game that need not be read is its first matching ply.
known-first : (query : PosQuery) (places : List Place) (sig : Sig) (game : GameTree) → TellsHit query places game
    → (hit_told query places ≡ None → (passes sig query && not (is_out query places sig)) ≡ false → None ≡ hit_of query game)
    → is_read query places sig ≡ false → ply_of (hit_told query places) ≡ first_of query game
known-first query places sig game tells none = by (hit_told query places) refl
  where
    first : ply_of (hit_of query game) ≡ first_of query game
    first = ply_by (first_on_main query game) (first_if_aside query game) (next_at game)

    by : (hit : Option (ℕ × Option Move)) → hit_told query places ≡ hit → (is_none hit && (passes sig query && not (is_out query places sig))) ≡ false
        → ply_of hit ≡ first_of query game
    by None is not_read = ap ply_of (none is not_read) ∙ first
    by (Some h) is not_read = ap ply_of (sym (tells h is)) ∙ first

are_right : (query : PosQuery) (index : Option Index) (told : List ℕ) (extents : List Extent) (sigs : List Sig) (list : List GameTree) → Holds told extents sigs list
    → IndexesAll index list → length query.board ≡ 64 → AreRight (unread_of query (rows_told index)) (first_of query) sigs list
are_right query index told extents sigs list holds is squares = λ i sig game kept there not_read.
    known-first query (places_in (rows_told index) i) sig game (tells_hit told extents sigs list i sig game index query is holds kept there squares)
    (unread_out told extents sigs list i sig game index query is holds kept there squares) not_read

-- So it is of what is asked, if that is this query.
pub right_so : (asked : Asked) (query : PosQuery) (index : Option Index) (told : List ℕ) (extents : List Extent) (sigs : List Sig) (list : List GameTree) → asked.query ≡ query
    → Holds told extents sigs list → IndexesAll index list → length query.board ≡ 64 → AreRight (unread_of query (rows_told index)) (first_asked asked) sigs list
right_so asked query index told extents sigs list same holds is squares =
    subst (λ (q : PosQuery). AreRight (unread_of query (rows_told index)) (first_of q) sigs list) (sym same) (are_right query index told extents sigs list holds is squares)

-- The games that are read are those that the price names.
reads-from : (query : PosQuery) (all rows : List (List Place)) (from : ℕ) (sigs : List Sig) → ((i : ℕ) → places_in all (from + i) ≡ places_in rows i)
    → reads_from (unread_of query all).reads from sigs ≡ are_read query rows sigs
reads-from query all rows from [] same = refl
reads-from query all [] from (sig ∷ sigs) same =
    ap₂ (λ (b : Bool) (l : List Bool). b ∷ l)
    (ap (λ (places : List Place). is_read query places sig) (ap (places_in all) (omega arith) ∙ same 0))
    (reads-from query all [] (suc from) sigs (λ i. ap (places_in all) (omega arith) ∙ same (suc i)))
reads-from query all (row ∷ rows) from (sig ∷ sigs) same =
    ap₂ (λ (b : Bool) (l : List Bool). b ∷ l)
    (ap (λ (places : List Place). is_read query places sig) (ap (places_in all) (omega arith) ∙ same 0))
    (reads-from query all rows (suc from) sigs (λ i. ap (places_in all) (omega arith) ∙ same (suc i)))

pub reads_are : (query : PosQuery) (rows : List (List Place)) (sigs : List Sig) → reads_from (unread_of query rows).reads 0 sigs ≡ are_read query rows sigs
reads_are query rows sigs = reads-from query rows rows 0 sigs (λ i. ap (places_in rows) (omega arith))
