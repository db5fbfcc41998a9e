use Rattle.std.proofs.Common.{◌<◌, ◌∙◌, ap, length, take, List}
use Rattle.pos_index.specs.Hits.{Place}
use Rattle.pos_index.specs.Keeping.{Listed, row_in, with_row}
use Rattle.pos_index.proofs.PlaceLemmas.{taken, there_is}
use Rattle.pos_index.proofs.places.Places.truncate.Goals as goal

pub returns : goal.returns
returns c =
    let there : c.args.i < length c.self.inside.lists.rows =
    there_is c.self.inside.boards.keys c.self.inside.lists.rows c.args.self.now c.args.i c.self.view_is c.requires.game in
    taken c.self.inside.boards.keys c.self.inside.lists.rows c.truncate.new.self.rows c.args.i c.args.count there (ap (λ (l : Listed). l.rows) c.truncate.ensures)
    ∙ ap (λ (rows : List (List Place)). with_row rows c.args.i (take c.args.count (row_in rows c.args.i))) c.self.view_is
