-- Lines as lists of moves.
use Rattle.std.proofs.Common.{◌≡◌, List, [], ◌∷◌, length, refl, ap, suc}
use Rattle.game_tree.specs.Tree.{Played, line_of, moves_of}

pub length-moves_of : (ps : List Played) → length (moves_of (line_of ps)) ≡ length ps
length-moves_of [] = refl
length-moves_of (p ∷ ps) = ap (λ n. suc n) (length-moves_of ps)

pub ruleset lines = (length-moves_of)
