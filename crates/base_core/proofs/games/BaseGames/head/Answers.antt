use Rattle.std.proofs.Common.{ap, ◌∙◌, Some, sym, []}
use Rattle.game_tree.specs.declared.head.Head.{Head}
use Rattle.base_core.specs.Entries.{head_of}
use Rattle.base_core.specs.Represents.{Kept}
use Rattle.base_core.proofs.GamesLaws.{at-map}
use Rattle.base_core.proofs.games.BaseGames.head.Goals as goal

pub returns-clause-head : goal.returns-clause-head
returns-clause-head c =
    at-map (λ e. head_of c.args.self.now.names e []) c.args.self.now.entries c.args.i c.entry.result c.entry.ensures.at
    ∙ (ap (λ (k : Kept). Some (head_of k.names c.entry.result [])) (sym c.self.view_is)
    ∙ ap (λ (h : Head). Some h) (sym (c.fields_of.ensures.fields [])))
