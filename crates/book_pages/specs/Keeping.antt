-- What is kept of the pages while games are counted. Only models and private functions cite these words.
use Rattle.std.specs.Prelude.{◌≡◌, ◌≤◌, ◌<◌, ◌⊎◌, ◌↔◌, IsBitSet, IsTrue, ℕ, zero, suc, ◌+◌, ◌^◌, ◌==◌, ◌∷◌, [], ◌++◌, All, true, false, if◌then◌else◌, Bool, List, Option, Some, None, length, option_map, slice_get, slice_index_or, sum, ⊤}
use Rattle.std.specs.Int.RustNames.{bit_and}
use Rattle.std.specs.List.{list_any}
use Rattle.std.specs.Option.{option_or}
use Rattle.cell_core.specs.declared.man.Colour.{Colour}
use Rattle.cell_core.specs.declared.step.Move.{Move}
use Rattle.cell_core.specs.Board.{Men}
use Rattle.cell_core.specs.Packed.{ArePacked, Packed, men_of}
use Rattle.chess_laws.specs.Counts.{counts_of, is_home}
use Rattle.game_tree.specs.Game.{GameTree}
use Rattle.game_tree.specs.Replay.{next_at, plies_of, position_at}
use Rattle.game_tree.specs.declared.head.Head.{Head}
use Rattle.indexmap.specs.IndexSet.{IndexSet, IsUnique}
use Rattle.pos_search.specs.Matching.{matches_at}
use Rattle.sig_index.specs.declared.pos_query.PosQuery.{PosQuery}
use Rattle.tree_rows.specs.Hits.{hit_from}
use Rattle.tree_rows.specs.MoveText.{IsKey}
use Rattle.tree_rows.specs.Rows.{AreRows, rows_of}
use Rattle.tree_rows.specs.declared.hit.GameHit.{GameHit}
use Rattle.tree_rows.specs.declared.row.Row.{Row}
use Rattle.book_pages.specs.Book.{packed_eq}
use Rattle.book_pages.specs.Hits.{exactly, hit_if_in, hits_below}
use Rattle.book_pages.specs.declared.counting.Counted.{Counted}

-- The rows of a board, and the last game that was counted there.
pub record Tallied : Type 0 where
  pub rows : List Row
  pub last : Option ℕ

-- Each game was counted once at most, in their order: so there are no more hits than games up to the last one.
abbrev pub IsTally : List Row → Option ℕ → Type 0
IsTally rows None = AreRows 0 rows
IsTally rows (Some i) = AreRows (i + 1) rows

-- The last game that was counted is below a number, if one was counted.
abbrev pub IsNone_or_below : ℕ → Option ℕ → Type 0
IsNone_or_below i None = ⊤
IsNone_or_below i (Some last) = last < i

abbrev pub IsBelow : ℕ → Tallied → Type 0
IsBelow i tally = IsNone_or_below i tally.last

-- A game is counted with this hit.
pub record IsMet (i : ℕ) (hit : GameHit) (old new : Tallied) : Type 0 where
  pub last : new.last ≡ Some i
  pub rows : (hits : List GameHit) → old.rows ≡ rows_of hits → new.rows ≡ rows_of (hits ++ hit ∷ [])

-- And with this one, if there is one.
abbrev pub IsMetIf : ℕ → Option GameHit → Tallied → Tallied → Type 0
IsMetIf i (Some hit) old new = IsMet i hit old new
IsMetIf i None old new = new ≡ old

-- The position of a board and the side to move.
abbrev pub query_of : Packed → PosQuery
query_of board = exactly (men_of board.cells) board.side

-- What is counted of a game at a ply.
abbrev pub hit_at : Counted → Colour → GameTree → ℕ → GameHit
hit_at counted side game ply = hit_from (next_at game ply) side counted.outcome counted.white counted.black counted.year

-- The first of the first n positions of its main line that stands on a board.
abbrev pub first_before : PosQuery → GameTree → ℕ → Option ℕ
first_before query game zero = None
first_before query game (suc n) = option_or (first_before query game n) (if matches_at query game n then Some n else None)

-- What is counted of these positions on a board.
abbrev pub hit_before : Counted → Packed → GameTree → ℕ → Option GameHit
hit_before counted board game n = option_map (hit_at counted board.side game) (first_before (query_of board) game n)

-- A game is counted on each board, by the first so many positions of its main line.
abbrev pub AreMet : List Packed → Counted → GameTree → ℕ → List Tallied → List Tallied → Type 0
AreMet boards counted game n old new =
    (k : ℕ) (board : Packed) (before after : Tallied) → slice_get boards k ≡ Some board → slice_get old k ≡ Some before
    → slice_get new k ≡ Some after → IsMetIf counted.number (hit_before counted board game n) before after

-- The rows of a board have its legal moves as keys: they are those of hits that go on so.
pub record HasKeys (board : Packed) (tally : Tallied) : Type 0 where
  pub hits : List GameHit
  pub summed : tally.rows ≡ rows_of hits
  pub keys : All (λ hit. IsKey (men_of board.cells) board.side hit.next) hits

-- The tallies of the boards, one for each, after games with numbers below this one were counted.
pub record AreTallies (boards : List Packed) (i : ℕ) (tallies : List Tallied) : Type 0 where
  pub count : length tallies ≡ length boards
  pub below : All (IsBelow i) tallies
  pub keys : (k : ℕ) (board : Packed) (tally : Tallied) → slice_get boards k ≡ Some board → slice_get tallies k ≡ Some tally → HasKeys board tally

-- Whether a board, if one was found, has this number.
abbrev pub is_at : Option ℕ → ℕ → Bool
is_at None k = false
is_at (Some number) k = number == k

-- If a game stands on a board, it is counted there, unless it was before.
abbrev pub IsHere : Bool → ℕ → GameHit → Tallied → Tallied → Type 0
IsHere true i hit before after = (before.last ≡ Some i → after ≡ before) × ((before.last ≡ Some i → ⊥) → IsMet i hit before after)
IsHere false i hit before after = after ≡ before

-- And so on each board, by the position at one ply.
abbrev pub AreMetAt : List Packed → Counted → GameTree → ℕ → List Tallied → List Tallied → Type 0
AreMetAt boards counted game ply old new =
    (k : ℕ) (board : Packed) (before after : Tallied) → slice_get boards k ≡ Some board → slice_get old k ≡ Some before
    → slice_get new k ≡ Some after → IsHere (matches_at (query_of board) game ply) counted.number (hit_at counted board.side game ply) before after

-- No later position of a main line stands on a board.
abbrev pub AreMetNoMore : List Packed → GameTree → ℕ → Type 0
AreMetNoMore boards game ply =
    (k later : ℕ) (board : Packed) → slice_get boards k ≡ Some board → ply < later → later ≤ plies_of game → matches_at (query_of board) game later ≡ false

-- How many men are on a board, kings not counted.
abbrev pub men_in : Men → ℕ
men_in men = sum (counts_of men)

-- A board is that of its men, and has at least so many.
pub record IsBoard (fewest : ℕ) (board : Packed) : Type 0 where
  pub packed : ArePacked board.cells
  pub men : fewest ≤ men_in (men_of board.cells)

-- Whether all bits of a set are in another.
abbrev pub is_part : ℕ → ℕ → Bool
is_part set part = bit_and part set == part

-- One of these sets has the home values of pawns of a board, and no others.
pub record HasHomes (homes : List ℕ) (board : Packed) : Type 0 where
  pub place : ℕ
  pub within : place < length homes
  pub small : slice_index_or homes place 0 < 2 ^ 16
  pub home : (v : ℕ) → v < 16 → IsBitSet (slice_index_or homes place 0) v → IsTrue (is_home (men_of board.cells) v)

-- One of these sets is a part of another.
pub record HasPart (homes : List ℕ) (set : ℕ) : Type 0 where
  pub place : ℕ
  pub within : place < length homes
  pub part : bit_and (slice_index_or homes place 0) set ≡ slice_index_or homes place 0

-- These sets stay in their places.
abbrev pub StayHomes : List ℕ → List ℕ → Type 0
StayHomes old new = (place : ℕ) → place < length old → (place < length new) × (slice_index_or new place 0 ≡ slice_index_or old place 0)

-- None of them has only home values of pawns of these men.
pub record HasNoHomes (homes : List ℕ) (men : Men) : Type 0 where
  pub set : ℕ
  pub small : set < 2 ^ 16
  pub bits : (v : ℕ) → v < 16 → (IsBitSet set v ↔ IsTrue (is_home men v))
  pub none : list_any (is_part set) homes ≡ false

-- A game that stands here comes to none of the boards any more.
abbrev pub IsPast : ℕ → List ℕ → Men → Type 0
IsPast fewest homes men = (men_in men < fewest) ⊎ HasNoHomes homes men

-- The boards of the pages: no two are the same.
pub record AreBoards {S : Type 0} (boards : IndexSet Packed S) (fewest : ℕ) : Type 0 where
  pub unique : IsUnique packed_eq boards
  pub each : All (IsBoard fewest) boards.keys

-- No game was counted on a board.
abbrev pub IsUncounted : Tallied → Type 0
IsUncounted tally = tally ≡ record { rows = rows_of []; last = None }

-- What is counted of a game beside its moves.
abbrev pub counted_of : ℕ → Head → Counted
counted_of i head =
    record { number = i; outcome = head.result; white = head.white_rating.value; black = head.black_rating.value; year = head.date.year }

-- A game that is in is counted on each board.
abbrev pub AreCountedIf : List Packed → ℕ → Option ℕ → Head → GameTree → List Tallied → List Tallied → Type 0
AreCountedIf boards i ply head game old new =
    (k : ℕ) (board : Packed) (before after : Tallied) → slice_get boards k ≡ Some board → slice_get old k ≡ Some before
    → slice_get new k ≡ Some after → IsMetIf i (hit_if_in (query_of board) ply head game) before after

-- The first n games of a filter were counted on each board.
abbrev pub HaveCounted : List Packed → List (Option ℕ) → List Head → List GameTree → ℕ → List Tallied → Type 0
HaveCounted boards plies heads games n tallies =
    (k : ℕ) (board : Packed) (tally : Tallied) → slice_get boards k ≡ Some board → slice_get tallies k ≡ Some tally
    → tally.rows ≡ rows_of (hits_below (query_of board) plies heads games n)

-- Each board has its tally, whose rows have its legal moves as keys.
pub record IsBook (boards : List Packed) (tallies : List Tallied) : Type 0 where
  pub count : length tallies ≡ length boards
  pub keys : (k : ℕ) (board : Packed) (tally : Tallied) → slice_get boards k ≡ Some board → slice_get tallies k ≡ Some tally → HasKeys board tally
