use Rattle.move_codec.proofs.Words.{sym, subst, Legal, Step, Numbered}
use Rattle.move_codec.proofs.Steps.{AreNumbers-step}
use Rattle.move_codec.proofs.numbered.Numbered.follow.Goals as goal

pub play_as-requires : goal.play_as-requires
play_as-requires c =
    record { legal = subst (λ (n : Numbered). Legal n.position c.args.m.now) (sym c.self.view_is) c.requires.legal; effect = c.effect-effect.ensures.effect }

pub invariant_of-self : goal.invariant_of-self
invariant_of-self c =
    rw (c.follow.ensures.after, c.effect-effect.ensures.effect, c.setup.ensures.setup)
    (AreNumbers-step c.self.inside.position c.args.m.now c.play_as.new.self c.self.inside.numbers c.setup.ensures.sound c.play_as.ensures.step c.self.invariant)

pub returns-clause-step : goal.returns-clause-step
returns-clause-step c = subst (λ (n : Numbered). Step n.position c.args.m.now c.play_as.new.self) c.self.view_is c.play_as.ensures.step
