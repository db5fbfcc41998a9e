use Rattle.pgn_read.specs.Items.{items_of}
use Rattle.intake_commands.proofs.PagingLaws.{page_unwritten, page_written}
use Rattle.intake_commands.proofs.importing.take_all.Goals as goal

pub returns-in-Ok-clause-takes : goal.returns-in-Ok-clause-takes
returns-in-Ok-clause-takes g c = λ s text st left.
    page_written c.take_in-taken.result c.take_in-taken.new.machine (g.F.Files.seen c.take_in-taken.new.files) s (items_of text) (g.K.Sink.taken c.args.out.now) (g.K.Sink.taken c.write_page.new.out) _ _ c.write_page.new.page.items c.new-page.ensures.items
    (c.take_in-taken.ensures.takes s text st left) c.write_page.ensures.kept c.in-Ok.ensures.empty

pub returns-clause-takes : goal.returns-clause-takes
returns-clause-takes g c = λ s text st left.
    page_unwritten c.take_in-taken.result c.in-Err.halt c.take_in-taken.new.machine (g.F.Files.seen c.take_in-taken.new.files) s (items_of text) (g.K.Sink.taken c.args.out.now) (g.K.Sink.taken c.write_page.new.out) _ _ c.write_page.new.page.items c.new-page.ensures.items
    (c.take_in-taken.ensures.takes s text st left) c.write_page.ensures.kept (λ front before. c.write_page.ensures.none_lost front (c.take_in-taken.ensures.none_lost front before)) c.in-Err.ensures.output
