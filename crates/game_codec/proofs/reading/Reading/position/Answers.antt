use Rattle.std.proofs.Common.{sym, ap, subst, ◌∙◌}
use Rattle.game_tree.specs.Replay.{position_at}
use Rattle.game_codec.specs.Record.{IsRecord}
use Rattle.game_codec.specs.Walk.{Walked}
use Rattle.game_codec.proofs.reading.Reading.position.Goals as goal

pub returns-clause-replay : goal.returns-clause-replay
returns-clause-replay c = λ tags game r.
    c.position.ensures.position
    ∙ (c.self.invariant.follows tags game (subst (λ (w : Walked). IsRecord w.bytes tags game) (sym c.self.view_is) r)).position
    ∙ ap (λ (w : Walked). position_at game w.ply) c.self.view_is
