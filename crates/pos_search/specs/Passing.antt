-- Which games a search of a position has to read, by their signatures (this project's own).
use Rattle.std.specs.Prelude.{ℕ, Bool, true, false, not, ◌&&◌, ◌||◌, ◌==◌, List}
use Rattle.std.specs.List.{list_all}
use Rattle.cell_core.specs.Board.{Men}
use Rattle.chess_laws.specs.Counts.{counts_of, is_home}
use Rattle.sig_index.specs.declared.mat_query.MatRange.{MatRange}
use Rattle.sig_index.specs.declared.pos_query.Mode.{Mode}
use Rattle.sig_index.specs.declared.pos_query.Mode.TheVariants.{Exact, Pawns}
use Rattle.sig_index.specs.declared.pos_query.PosQuery.{PosQuery}
use Rattle.sig_index.specs.declared.signature.Sig.{Sig}
use Rattle.sig_index.specs.Homes.{home_allows, home_set}
use Rattle.sig_index.specs.Signature.{all_homes}
use Rattle.sig_index.specs.Skipping.{can_stand}

-- The range of these counts alone.
abbrev pub just : List ℕ → MatRange
just counts = record { lo = counts; hi = counts }

-- A mode in which the pawns stand on the same squares, and so the same ones at home.
abbrev pub fixes_pawns : Mode → Bool
fixes_pawns Exact = true
fixes_pawns Pawns = true
fixes_pawns _ = false

-- Each pawn at home on the first board stands at home on the second.
unfoldable pub has_homes : Men → Men → Bool
has_homes sought men = list_all (λ value. not (is_home sought value) || is_home men value) all_homes

-- A main line with this signature can match: if the mode fixes them, the pawns that stand at home on the board can have been those at
-- home, and the counts of the board can have stood.
abbrev pub passes_main : Sig → PosQuery → Bool
passes_main sig query =
    (not (fixes_pawns query.mode) || home_allows sig (home_set query.board)) && can_stand sig (just (counts_of query.board))

-- The variations of a game with this signature are looked at: the query looks there, and the game has some.
abbrev pub looks_into : Sig → PosQuery → Bool
looks_into sig query = query.vars && not (sig.vars == 0)

-- A game with this signature can match: its main line, or a variation if it has some and the query looks there. The signature tells
-- nothing of the men in variations.
unfoldable pub passes : Sig → PosQuery → Bool
passes sig query = looks_into sig query || passes_main sig query
