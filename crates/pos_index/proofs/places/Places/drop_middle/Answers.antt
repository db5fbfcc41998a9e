use Rattle.std.proofs.Common.{◌<◌, ◌+◌, ◌++◌, ◌∙◌, ap, length, drop, take, List}
use Rattle.pos_index.specs.Hits.{Place}
use Rattle.pos_index.specs.Keeping.{Listed, row_in, with_row}
use Rattle.pos_index.proofs.PlaceLemmas.{dropped, there_is}
use Rattle.pos_index.proofs.places.Places.drop_middle.Goals as goal

pub returns : goal.returns
returns c =
    let there : c.args.i < length c.self.inside.lists.rows =
    there_is c.self.inside.boards.keys c.self.inside.lists.rows c.args.self.now c.args.i c.self.view_is c.requires.game in
    dropped c.self.inside.boards.keys c.self.inside.lists.rows c.drop_middle.new.self.rows c.args.i c.args.from c.args.count there (ap (λ (l : Listed). l.rows) c.drop_middle.ensures)
    ∙ ap (λ (rows : List (List Place)). with_row rows c.args.i (take c.args.from (row_in rows c.args.i) ++ drop (c.args.from + c.args.count) (row_in rows c.args.i))) c.self.view_is
