use Rattle.std.proofs.Common.{List, ℕ, ◌++◌, refl, ap, ◌∙◌}
use Rattle.pgn_write.specs.Pgn.{pgn_of}
use Rattle.shell_state.proofs.PassingLaws.{least_at}
use Rattle.text_commands.proofs.GameTextLaws.{is_text_of, text_read}
use Rattle.text_commands.proofs.game_texts.read_behind.Goals as goal

pub returns-in-Ok-put_behind-clause-text : goal.returns-in-Ok-put_behind-clause-text
returns-in-Ok-put_behind-clause-text g c = λ told all held same is at.
    c.in-Ok-put_behind.ensures.text
    ∙ ap (λ (l : List ℕ). c.args.text.now.items ++ l)
    (text_read (g.F.Files.seen c.args.files.now).games told c.args.base.now all held c.args.i c.in-Ok.read.0 c.in-Ok.read.1 (pgn_of c.in-Ok.read.0 c.in-Ok.read.1) same is at c.in-Ok.ensures.found refl)

pub returns-in-Ok-put_behind-clause-asked : goal.returns-in-Ok-put_behind-clause-asked
returns-in-Ok-put_behind-clause-asked g c = least_at c.args.base.now.entries c.args.i (g.F.Files.asked c.args.files.now) (g.F.Files.asked c.game.new.files) c.requires.there c.in-Ok.ensures.asked

pub returns-in-Ok-put_behind-clause-shown : goal.returns-in-Ok-put_behind-clause-shown
returns-in-Ok-put_behind-clause-shown g c = λ e at. (
  pgn_of c.in-Ok.read.0 c.in-Ok.read.1,
  (
    c.in-Ok-put_behind.ensures.text,
    is_text_of c.args.base.now c.args.i c.game.new.buf c.in-Ok.read.0 c.in-Ok.read.1 e (pgn_of c.in-Ok.read.0 c.in-Ok.read.1) at c.in-Ok.ensures.shown c.in-Ok.ensures.legal refl,
  ),
)
