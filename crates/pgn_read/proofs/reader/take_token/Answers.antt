use Rattle.std.proofs.Common.{sym, ap, ◌∙◌}
use Rattle.pgn_read.specs.Items.{effect_at}
use Rattle.pgn_read.specs.Reading.{Reading}
use Rattle.pgn_read.specs.Said.{said_step}
use Rattle.pgn_read.specs.Window.{front}
use Rattle.pgn_read.proofs.ItemLaws.{told_effect}
use Rattle.pgn_read.proofs.reader.take_token.Goals as goal

pub returns-in-Ok-clause-effect : goal.returns-in-Ok-clause-effect
returns-in-Ok-clause-effect g c =
    told_effect c.args.game.now (said_step c.in-Ok.step c.take_front.new.game) c.args.window.now c.looks.window _ _
    c.looks.invariant.kept c.in-Ok.ensures.decides c.looks.invariant.told
    (ap (λ (r : Reading). effect_at r (front c.looks.window)) (sym c.looks.invariant.game) ∙ c.in-Ok.ensures.effect)
