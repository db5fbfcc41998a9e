-- What the functions of this crate keep of a query, and when they end a walk.
use Rattle.std.specs.Prelude.{◌≡◌, ℕ, List, Bool, true, not, ◌&&◌, ◌||◌, if◌then◌else◌, sum, Option, Some, None}
use Rattle.std.specs.Int.RustNames.{bit_and}
use Rattle.std.specs.Option.{option_or}
use Rattle.cell_core.specs.declared.man.Colour.TheVariants.{White, Black}
use Rattle.cell_core.specs.declared.man.Kind.TheVariants.{Pawn}
use Rattle.cell_core.specs.Board.{Men}
use Rattle.cell_core.specs.Man.{is_man}
use Rattle.cell_core.specs.Sets.{set_of}
use Rattle.chess_laws.specs.Counts.{counts_of}
use Rattle.chess_laws.specs.declared.setup.Setup.{Setup}
use Rattle.chess_laws.specs.Position.{Sound}
use Rattle.game_codec.specs.AllWalk.{AllWalked}
use Rattle.game_codec.specs.Walk.{Walked}
use Rattle.sig_index.specs.declared.mat_query.MatRange.{MatRange}
use Rattle.sig_index.specs.declared.pos_query.PosQuery.{PosQuery}
use Rattle.sig_index.specs.Coming.{can_come}
use Rattle.sig_index.specs.Homes.{home_set}
use Rattle.pos_search.specs.Matching.{matches}
use Rattle.pos_search.specs.Passing.{fixes_pawns, has_homes, just}
use Rattle.pos_search.specs.declared.coming.Coming.{Coming}
use Rattle.pos_search.specs.declared.homes.Homes.{Homes}

-- The squares of the pawns at home on a board: White's on the second rank, and Black's on the seventh.
unfoldable pub AreHomes : Men → Homes → Type 0
AreHomes men homes =
    (homes.white ≡ bit_and (set_of (is_man White Pawn) men) 65280) × (homes.black ≡ bit_and (set_of (is_man Black Pawn) men) 71776119061217280)

-- What is counted on the board of a query: its ten counts, the same as the only ones of a range, their sum, and
-- its pawns at home by their values and by their squares.
pub record IsCounted (query : PosQuery) (counts : List ℕ) (range : MatRange) (men homes : ℕ) (squares : Homes) : Type 0 where
  pub numbers : counts ≡ counts_of query.board
  pub counted : range ≡ just (counts_of query.board)
  pub summed : men ≡ sum (counts_of query.board)
  pub at_home : homes ≡ home_set query.board
  pub stand : AreHomes query.board squares

-- A position that is sought can still come after this one: no man is missing, and if the mode fixes them, no pawn at home.
unfoldable pub can_follow : PosQuery → Setup → Bool
can_follow query p = can_come (just (counts_of query.board)) (counts_of p.board) && (not (fixes_pawns query.mode) || has_homes query.board p.board)

-- What was kept of the counts of a ply: whether the men that are missing to those of the query can still come.
abbrev pub IsTold : PosQuery → Coming → Type 0
IsTold query coming = coming.can ≡ can_come (just (counts_of query.board)) coming.counts

-- The ply of the first place in a variation that was found so far: this one, if none was found before it.
abbrev pub found_aside : PosQuery → Option ℕ → AllWalked → Option ℕ
found_aside query found walk = option_or found (if not walk.on_main && matches query walk.position then Some walk.ply else None)

-- A walk stands at this ply, and the position there is one that is sought.
pub record Met (query : PosQuery) (walk : Walked) (ply : ℕ) : Type 0 where
  pub at : walk.ply ≡ ply
  pub sound : Sound walk.position
  pub here : matches query walk.position ≡ true
