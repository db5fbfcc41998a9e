use Rattle.std.proofs.Common.{◌≡◌, List, subst}
use Rattle.std.specs.Prelude.{IfOk}
use Rattle.game_codec.specs.Record.{IsRecord}
use Rattle.game_tree.specs.Game.{GameTree}
use Rattle.game_tree.specs.declared.head.Tag.{Tag}
use Rattle.sig_index.specs.declared.pos_query.PosQuery.{PosQuery}
use Rattle.pos_search.specs.Matching.{hit_of}
use Rattle.pos_search.proofs.walking.first_match.Goals as goal

pub returns-clause-first : goal.returns-clause-first
returns-clause-first c =
    subst (λ (q : PosQuery). IfOk c.first_sought.result (λ hit. (tags : List Tag) (game : GameTree) → IsRecord c.args.bytes.now tags game → hit ≡ hit_of q game))
    c.new.ensures.query c.first_sought.ensures.first
