use Rattle.std.proofs.Common.{◌≡◌, ℕ, List, [], ◌∷◌, subst, arith}
use Rattle.std.proofs.lemmas.Grind.{common_steps}
use Rattle.std.proofs.lemmas.List.{nil_from_length}
use Rattle.game_codec.specs.Walking.{GoesOn}
use Rattle.game_codec.proofs.WalkLaws.{front_nag, front_no_nag}
use Rattle.game_codec.proofs.passing.nag.Goals as goal

pub returns-then-is_empty-clause-fault : goal.returns-then-is_empty-clause-fault
returns-then-is_empty-clause-fault c = λ here left g.
    let none : c.args.behind.now ≡ [] = nil_from_length c.args.behind.now (grind (arith, common_steps)) in
    front_no_nag here left (subst (λ (l : List ℕ). GoesOn here left (11 ∷ l)) none g)

pub returns-else-is_empty-clause-front : goal.returns-else-is_empty-clause-front
returns-else-is_empty-clause-front c = (omega arith, grind (arith, common_steps), λ here left g. front_nag here left c.args.behind.now g)
