use Rattle.text_commands.proofs.GameTextLaws.{text_unread, text_waits}
use Rattle.text_commands.proofs.ShownLaws.{puts_one}
use Rattle.text_commands.proofs.game_texts.put_one.Goals as goal
use Rattle.text_commands.specs.GameTexts.{game_text}

pub returns-in-Ok-clause-put : goal.returns-in-Ok-clause-put
returns-in-Ok-clause-put g c = λ told all held same is at.
    text_waits c.write_full.result (game_text held) c.args.page.now.items (g.K.Sink.taken c.args.out.now) (g.K.Sink.taken c.write_full.new.out) c.read_behind.new.text.items c.write_full.new.page.items
    (c.in-Ok.ensures.text told all held same is at) c.write_full.ensures.kept c.write_full.ensures.output

pub returns-in-Err-clause-put : goal.returns-in-Err-clause-put
returns-in-Err-clause-put g c = λ told all held same is at.
    text_unread c.in-Err.halt (game_text held) (g.K.Sink.taken c.args.out.now) c.args.page.now.items c.read_behind.new.text.items (c.in-Err.ensures.devices told all same is) c.in-Err.ensures.kept

pub returns-in-Ok-clause-shown : goal.returns-in-Ok-clause-shown
returns-in-Ok-clause-shown g c =
    puts_one c.write_full.result c.args.base.now c.args.i (g.K.Sink.taken c.args.out.now) (g.K.Sink.taken c.write_full.new.out) c.args.page.now.items c.read_behind.new.text.items c.write_full.new.page.items
    c.in-Ok.ensures.shown c.write_full.ensures.kept
