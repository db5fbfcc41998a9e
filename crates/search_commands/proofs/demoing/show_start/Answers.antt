use Rattle.search_commands.proofs.DemoLaws.{search_asks, search_done, search_shows, tree_asks, tree_shows}
use Rattle.search_commands.proofs.demoing.show_start.Goals as goal
use Rattle.search_commands.specs.Demo.{shown_after}

pub returns-in-Ok-clause-shows : goal.returns-in-Ok-clause-shows
returns-in-Ok-clause-shows g c = λ s st.
    let found = search_done c.search_position.new.machine (g.F.Files.seen c.search_position.new.files) s c.at_start-query.result _ _ c.at_start-query.ensures.start (c.in-Ok.ensures.serves s st) in
    tree_shows c.search_position.new.machine c.tree.new.machine (g.F.Files.seen c.search_position.new.files) (g.F.Files.seen c.tree.new.files) s c.at_start-query.result _ _ _ c.tree.result c.at_start-query.ensures.start found (c.tree.ensures.serves (shown_after s) found.stands)

pub returns-in-Ok-clause-asks : goal.returns-in-Ok-clause-asks
returns-in-Ok-clause-asks g c = λ s st.
    let found = search_done c.search_position.new.machine (g.F.Files.seen c.search_position.new.files) s c.at_start-query.result _ _ c.at_start-query.ensures.start (c.in-Ok.ensures.serves s st) in
    tree_asks c.args.machine.now c.search_position.new.machine (g.F.Files.seen c.args.files.now) (g.F.Files.seen c.search_position.new.files) s c.at_start-query.result _ _ _ c.at_start-query.ensures.start st found.stands c.search_position.ensures.asks c.tree.ensures.asks

pub returns-in-Err-clause-shows : goal.returns-in-Err-clause-shows
returns-in-Err-clause-shows g c = λ s st. search_shows c.search_position.new.machine (g.F.Files.seen c.search_position.new.files) s c.at_start-query.result c.in-Err.halt _ _ c.at_start-query.ensures.start (c.in-Err.ensures.serves s st)

pub returns-in-Err-clause-asks : goal.returns-in-Err-clause-asks
returns-in-Err-clause-asks g c = λ s st. search_asks c.args.machine.now (g.F.Files.seen c.args.files.now) s c.at_start-query.result _ _ c.at_start-query.ensures.start st c.search_position.ensures.asks
