use Rattle.std.proofs.Common.{◌≡◌, List, Option, ℕ, ◌∙◌, sym}
use Rattle.cell_core.specs.declared.step.Move.{Move}
use Rattle.game_codec.specs.Record.{IsRecord}
use Rattle.game_tree.specs.Game.{GameTree}
use Rattle.game_tree.specs.declared.head.Tag.{Tag}
use Rattle.pos_search.specs.Matching.{hit_of, hit_on_main}
use Rattle.pos_search.proofs.AsideLemmas.{ok_map, plain_hit}
use Rattle.pos_search.proofs.walking.first_sought.Goals as goal

pub returns-else-looks_aside-clause-first : goal.returns-else-looks_aside-clause-first
returns-else-looks_aside-clause-first c =
    let q = c.args.q.now in
    ok_map
    (λ (hit : Option (ℕ × Option Move)). (tags : List Tag) (game : GameTree) → IsRecord c.args.bytes.now tags game → hit ≡ hit_on_main q game)
    (λ (hit : Option (ℕ × Option Move)). (tags : List Tag) (game : GameTree) → IsRecord c.args.bytes.now tags game → hit ≡ hit_of q game)
    c.first_on_main.result
    (λ hit told tags game is. told tags game is ∙ plain_hit q game (sym c.looks_aside.ensures.aside ∙ c.if-looks_aside.false))
    c.first_on_main.ensures.first
