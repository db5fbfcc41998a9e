use Rattle.game_codec.proofs.RecordAnswerLaws.{from_broken}
use Rattle.game_codec.proofs.walk.fault_at.Goals as goal

pub returns-clause-first : goal.returns-clause-first
returns-clause-first c = λ told.
    from_broken c.args.bytes.now _ (record { rest = told.0; breaks = told.2; place = c.place_of.ensures.place told.0 told.1 })
