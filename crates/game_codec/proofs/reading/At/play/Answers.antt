use Rattle.std.proofs.Common.{refl}
use Rattle.game_codec.specs.declared.token.Token.TheVariants as read
use Rattle.game_codec.proofs.ReadingLaws.{faults, keeps, plays-as}
use Rattle.game_codec.proofs.reading.At.play.Goals as goal

pub returns-in-Err-clause-fault : goal.returns-in-Err-clause-fault
returns-in-Err-clause-fault c = faults c.args.self.now _ refl c.in-Err.ensures.fault

pub returns-in-Err-clause-passes : goal.returns-in-Err-clause-passes
returns-in-Err-clause-passes c = keeps c.args.self.now _ c.in-Err.ensures.kept refl refl

pub returns-in-Ok-clause-does : goal.returns-in-Ok-clause-does
returns-in-Ok-clause-does c =
    plays-as c.args.self.now _ c.in-Ok.used c.in-Ok.ensures.used.1 c.in-Ok.ensures.used.0 (read.Play c.in-Ok.m) c.in-Ok.ensures.takes c.in-Ok.ensures.past
    c.split_at.ensures.back c.play-in-Ok.ensures.added c.in-Ok.m c.in-Ok.m refl refl
