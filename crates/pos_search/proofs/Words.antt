-- Words of the laws on variations.
use Rattle.std.proofs.Common.{ℕ, Option, None, option_map}
use Rattle.std.specs.List.{find}
use Rattle.cell_core.specs.declared.step.Move.{Move}
use Rattle.chess_laws.specs.declared.setup.Setup.{Setup}
use Rattle.game_codec.specs.Visits.{places}
use Rattle.game_tree.specs.Game.{GameTree}
use Rattle.sig_index.specs.declared.pos_query.PosQuery.{PosQuery}
use Rattle.pos_search.specs.Matching.{is_sought}

-- The ply of the first place in a game's variations whose position is one that is sought.
abbrev pub first_aside : PosQuery → GameTree → Option ℕ
first_aside query game = option_map (λ (place : Setup × ℕ). place.1) (find (is_sought query) (places game))

-- The hit at a ply of a variation.
abbrev pub hit_aside : ℕ → ℕ × Option Move
hit_aside ply = (ply, None)
