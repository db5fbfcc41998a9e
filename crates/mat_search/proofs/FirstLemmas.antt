-- The first ply that a search computes is the first at which the game matches.
use Rattle.std.proofs.Common.{◌≡◌, ℕ, ◌+◌, Option, None, Some, refl, arith}
use Rattle.game_tree.specs.Game.{GameTree}
use Rattle.game_tree.specs.Replay.{plies_of}
use Rattle.sig_index.specs.declared.mat_query.MatQuery.{MatQuery}
use Rattle.sig_index.proofs.Ranges.{found_first, found_none}
use Rattle.mat_search.specs.Matching.{FirstPly, first_of, matches_at}

first_by : (query : MatQuery) (game : GameTree) (first : Option ℕ) → first_of query game ≡ first → FirstPly query game first
first_by query game None is = λ ply within. found_none (matches_at query game) 0 (plies_of game + 1) ply is (omega arith) (omega (arith, within))
first_by query game (Some ply) is =
    let found = found_first (matches_at query game) 0 (plies_of game + 1) ply is in
    (omega (arith, found.within), (found.passes, λ earlier less. found.before earlier (omega arith) less))

pub first_is : (query : MatQuery) (game : GameTree) → FirstPly query game (first_of query game)
first_is query game = first_by query game (first_of query game) refl
