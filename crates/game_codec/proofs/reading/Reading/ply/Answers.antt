use Rattle.std.proofs.Common.{sym, subst}
use Rattle.game_codec.specs.Record.{IsRecord}
use Rattle.game_codec.specs.Walk.{Walked}
use Rattle.game_codec.proofs.reading.Reading.ply.Goals as goal

pub returns-clause-within : goal.returns-clause-within
returns-clause-within c = λ tags game r.
    (c.self.invariant.follows tags game (subst (λ (w : Walked). IsRecord w.bytes tags game) (sym c.self.view_is) r)).within
