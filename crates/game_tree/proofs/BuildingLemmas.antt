-- Trees while they are built.
use Rattle.std.proofs.Common.{◌≡◌, List, [], ◌∷◌, ◌++◌, refl, ap}
use Rattle.game_tree.specs.Tree.{more, Variation, branches_of}
use Rattle.game_tree.specs.Building.{with_branch}

pub branches_of-push : (vs : List Variation) (v : Variation) → branches_of (vs ++ v ∷ []) ≡ with_branch (branches_of vs) v
branches_of-push [] v = refl
branches_of-push (w ∷ vs) v = ap (λ bs. more w.lead w.line bs) (branches_of-push vs v)

pub ruleset building = (branches_of-push)
