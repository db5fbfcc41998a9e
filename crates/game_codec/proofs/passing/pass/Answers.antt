use Rattle.std.proofs.Common.{◌≡◌, ℕ, List, [], subst, arith}
use Rattle.std.proofs.lemmas.List.{nil_from_length}
use Rattle.game_codec.specs.Walking.{Within}
use Rattle.game_codec.proofs.WalkLaws.{within_none}
use Rattle.game_codec.proofs.passing.pass.Goals as goal

pub returns-in-empty-clause-fault : goal.returns-in-empty-clause-fault
returns-in-empty-clause-fault c = λ later within.
    let none : c.args.bytes.now ≡ [] = nil_from_length c.args.bytes.now (omega (arith, c.in-empty.len_below)) in
    within_none c.args.depth later c.requires.open (subst (λ (l : List ℕ). Within c.args.depth l later) none within)
