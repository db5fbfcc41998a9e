-- The table is compared with the definition, by computing.
use Rattle.std.proofs.Common.{refl}
use Rattle.chess_laws.specs.RayTable.{names_rays}
use Rattle.chess_laws.specs.Geometry.{shift}
use Rattle.chess_laws.proofs.sliding.row_squares.Goals as goal

pub row_squares_in-requires : goal.row_squares_in-requires
unfolding shift names_rays
row_squares_in-requires c = record { row = c.requires.row; says = refl }

pub returns : goal.returns
returns c = c.row_squares_in.ensures
