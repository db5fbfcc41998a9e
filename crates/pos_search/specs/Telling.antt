-- What the functions of this crate keep of what an index tells (this project's own).
use Rattle.std.specs.Prelude.{◌≡◌, ℕ, ◌&&◌, ◌||◌, ◌==◌, not, nat_lt, if◌then◌else◌, All, Bool, false, IfSome, List, [], Option, None, Some, map, sum}
use Rattle.std.specs.Int.RustNames.{bit_and}
use Rattle.cell_core.specs.Packed.{packed_of}
use Rattle.cell_core.specs.declared.step.Move.{Move}
use Rattle.game_search.specs.Questions.{Unread}
use Rattle.game_tree.specs.Game.{GameTree}
use Rattle.pos_index.specs.Hits.{IsLegalOn, Place, hits_from, last_of, places_in}
use Rattle.chess_laws.specs.Counts.{counts_of}
use Rattle.pos_index.specs.declared.hit.Hit.{Hit}
use Rattle.pos_index.specs.declared.last.Last.{Last}
use Rattle.sig_index.specs.Homes.{home_set}
use Rattle.sig_index.specs.declared.pos_query.PosQuery.{PosQuery}
use Rattle.sig_index.specs.declared.signature.Sig.{Sig}
use Rattle.pos_search.specs.Matching.{first_of, hit_of}
use Rattle.pos_search.specs.Passing.{looks_into}
use Rattle.pos_search.specs.Searching.{hit_told, is_exact, is_read, ply_of}

-- What an index tells a search of all games: the hits on the board that is sought, and what is kept of the last place of each game.
pub record Told : Type 0 where
  pub hits : List Hit
  pub lasts : List (Option Last)

-- For a query, if it is exact; and nothing else.
abbrev pub hits_told : PosQuery → List (List Place) → Told
hits_told query rows = record {
  hits = if is_exact query.mode then hits_from (packed_of query.board query.side) 0 rows else [];
  lasts = if is_exact query.mode then map last_of rows else [];
}

-- The move after each hit on the board of a query is legal there, if there is one.
abbrev pub AreLegalHits : PosQuery → Told → Type 0
AreLegalHits query told = All (λ (hit : Hit). IfSome hit.next (IsLegalOn (packed_of query.board query.side))) told.hits

-- A game is out by what is kept of its last place, if something is.
abbrev pub past_by : PosQuery → Last → Bool
past_by query last = nat_lt last.men (sum (counts_of query.board)) || (not (bit_and last.homes (home_set query.board) == home_set query.board) || not last.goes_on)

abbrev pub out_by : PosQuery → Sig → Option Last → Bool
out_by query sig None = false
out_by query sig (Some last) = past_by query last && not (looks_into sig query)

-- What the index tells of a game is its hit.
abbrev pub TellsHit : PosQuery → List Place → GameTree → Type 0
TellsHit query places game = (hit : ℕ × Option Move) → hit_told query places ≡ Some hit → hit_of query game ≡ Some hit

-- What a search asks of each game: a query, with what an index tells for it.
pub record Asked : Type 0 where
  pub query : PosQuery
  pub told : Told

abbrev pub first_asked : Asked → GameTree → Option ℕ
first_asked asked game = first_of asked.query game

-- Which games it has read, if what is told is of games with these places, and what is known of the others.
pub record TellsBy (asked : Asked) (rows : List (List Place)) (unread : Unread) : Type 0 where
  pub told : asked.told ≡ hits_told asked.query rows
  pub reads : (i : ℕ) (sig : Sig) → unread.reads i sig ≡ is_read asked.query (places_in rows i) sig
  pub ply : (i : ℕ) → unread.ply i ≡ ply_of (hit_told asked.query (places_in rows i))

abbrev pub tells : Asked → Unread → Type 0
tells asked unread = (rows : List (List Place)) × TellsBy asked rows unread
