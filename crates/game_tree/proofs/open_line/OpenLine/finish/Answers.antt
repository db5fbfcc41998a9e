use Rattle.std.proofs.Common.{◌∙◌, ap, sym}
use Rattle.game_tree.specs.Tree.{line_of}
use Rattle.game_tree.specs.Building.{read_line}
use Rattle.game_tree.proofs.OpenLaws.{rejoined}
use Rattle.game_tree.proofs.open_line.OpenLine.finish.Goals as goal

pub returns-clause-line : goal.returns-clause-line
returns-clause-line c = ap line_of (sym (rejoined c.self.inside.line.items)) ∙ ap read_line c.self.view_is
