use Rattle.std.proofs.Common.{◌≡◌, ℕ, List, [], ◌∷◌, subst, arith}
use Rattle.std.proofs.lemmas.Grind.{common_steps}
use Rattle.std.proofs.lemmas.List.{nil_from_length}
use Rattle.game_codec.specs.Walking.{Within}
use Rattle.game_codec.proofs.WalkLaws.{within_nag, within_no_nag}
use Rattle.game_codec.proofs.passing.pass_nag.Goals as goal

pub returns-then-is_empty-clause-fault : goal.returns-then-is_empty-clause-fault
returns-then-is_empty-clause-fault c = λ later within.
    let none : c.args.behind.now ≡ [] = nil_from_length c.args.behind.now (grind (arith, common_steps)) in
    within_no_nag c.args.depth later c.requires.open (subst (λ (l : List ℕ). Within c.args.depth (11 ∷ l) later) none within)

pub returns-else-is_empty-clause-within : goal.returns-else-is_empty-clause-within
returns-else-is_empty-clause-within c = λ later within. within_nag c.args.depth c.args.behind.now later c.requires.open within
