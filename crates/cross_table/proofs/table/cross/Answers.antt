use Rattle.std.proofs.Common.{◌∙◌, length, ap}
use Rattle.cross_table.specs.Keeping.{Entered, rows_below, table_in}
use Rattle.cross_table.proofs.Tables.{table_is}
use Rattle.cross_table.proofs.table.cross.Goals as goal

pub returns-clause-table : goal.returns-clause-table
returns-clause-table g c =
    (λ j. table_in (c.in_ok-rows.ensures j) (c.games.ensures j))
    ∙ ap (λ (e : Entered). table_in (rows_below e (length e.names)) (length e.games)) c.in_ok-entrants.ensures.entrants
    ∙ table_is c.args.event.now (g.G.Games.heads c.args.games.now)
