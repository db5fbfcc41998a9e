use Rattle.text_commands.proofs.CutLaws.{page_unwritten, page_written}
use Rattle.text_commands.proofs.ShownLaws.{puts_page}
use Rattle.text_commands.proofs.game_texts.write_games.Goals as goal

pub returns-in-Ok-clause-written : goal.returns-in-Ok-clause-written
returns-in-Ok-clause-written g c = λ told all same is.
    page_written c.put_games-put.result c.args.filter.now all.games (g.K.Sink.taken c.args.out.now) (g.K.Sink.taken c.write_page.new.out) _ _ c.write_page.new.page.items c.new-page.ensures.items
    (c.put_games-put.ensures.put told all same is) c.write_page.ensures.kept c.in-Ok.ensures.empty

pub returns-clause-written : goal.returns-clause-written
returns-clause-written g c = λ told all same is.
    page_unwritten c.put_games-put.result c.in-Err.halt c.args.filter.now all.games (g.K.Sink.taken c.args.out.now) (g.K.Sink.taken c.write_page.new.out) _ _ c.write_page.new.page.items c.new-page.ensures.items
    (c.put_games-put.ensures.put told all same is) c.write_page.ensures.kept (λ front before. c.write_page.ensures.none_lost front (c.put_games-put.ensures.none_lost front before)) c.in-Err.ensures.output

pub returns-in-Ok-clause-shown : goal.returns-in-Ok-clause-shown
returns-in-Ok-clause-shown g c =
    puts_page c.put_games-put.result c.args.base.now c.args.filter.now (g.K.Sink.taken c.args.out.now) (g.K.Sink.taken c.write_page.new.out) _ _ c.write_page.new.page.items c.new-page.ensures.items c.put_games-put.ensures.shown
    c.write_page.ensures.kept c.in-Ok.ensures.empty
