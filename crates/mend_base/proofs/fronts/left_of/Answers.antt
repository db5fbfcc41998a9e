use Rattle.std.proofs.Common.{◌≡◌, ℕ, List, Option, None, Some, IfOk, MatchOption, subst}
use Rattle.mend_base.proofs.FrontLaws.{left-same}
use Rattle.mend_base.proofs.fronts.left_of.Goals as goal

pub returns-clause-left : goal.returns-clause-left
returns-clause-left c =
    let P : Option (List ℕ) → Type 0 = λ o. IfOk c.left_by.result (λ found. MatchOption found (o ≡ None) (λ left. o ≡ Some left.items)) in
    subst P (left-same c.args.bytes.now c.front-before.result.now c.args.place c.behind.result c.behind-at.result c.front-before.ensures.front c.behind.ensures.behind c.behind-at.ensures.behind) c.left_by.ensures.left
