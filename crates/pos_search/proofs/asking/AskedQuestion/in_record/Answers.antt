use Rattle.std.proofs.Common.{◌≡◌, List, IfOk, subst}
use Rattle.game_codec.specs.Record.{IsRecord}
use Rattle.game_tree.specs.Game.{GameTree}
use Rattle.game_tree.specs.declared.head.Tag.{Tag}
use Rattle.sig_index.specs.Signature.{IsSig}
use Rattle.pos_search.specs.Telling.{Asked, first_asked}
use Rattle.pos_search.proofs.asking.AskedQuestion.in_record.Goals as goal

pub returns-clause-first : goal.returns-clause-first
returns-clause-first c =
    let F : Asked → Type 0 = λ asked. IfOk c.ply_sought.result (λ ply. (tags : List Tag) (game : GameTree) → IsRecord c.args.record.now tags game → IsSig game c.args.sig.now → ply ≡ first_asked asked game) in
    subst F c.self.view_is c.ply_sought.ensures.first
