use Rattle.std.proofs.Common.{◌≡◌, ℕ, List, Option, IfOk, subst}
use Rattle.std.proofs.lemmas.Result.{IfOk-weaker}
use Rattle.game_codec.specs.Record.{IsRecord}
use Rattle.game_tree.specs.Game.{GameTree}
use Rattle.game_tree.specs.declared.head.Tag.{Tag}
use Rattle.sig_index.specs.Signature.{IsSig}
use Rattle.sig_index.specs.declared.mat_query.MatQuery.{MatQuery}
use Rattle.mat_search.specs.Matching.{first_of}
use Rattle.mat_search.proofs.searching.CountsQuestion.in_record.Goals as goal

pub returns-clause-first : goal.returns-clause-first
returns-clause-first c =
    let P : MatQuery → Option ℕ → Type 0 = λ q ply. (tags : List Tag) (game : GameTree) → IsRecord c.args.record.now tags game → ply ≡ first_of q game in
    let Q : Option ℕ → Type 0 = λ ply. (tags : List Tag) (game : GameTree) → IsRecord c.args.record.now tags game → IsSig game c.args._sig.now → ply ≡ first_of c.args.self.now game in
    let F : MatQuery → Type 0 = λ q. IfOk c.first_ply.result (P q) in
    IfOk-weaker c.first_ply.result (P c.args.self.now) Q (λ ply told tags game is _signed. told tags game is) (subst F c.self.view_is c.first_ply.ensures.first)
