use Rattle.game_codec.proofs.RecordAnswerLaws.{from_broken}
use Rattle.game_codec.proofs.checking.first_fault.Goals as goal

pub returns-in-Err : goal.returns-in-Err
returns-in-Err c =
    let told = c.in-Err.ensures.err in
    record {
      record_or_fault = from_broken c.args.bytes.now _ (record { rest = told.0; breaks = told.2; place = c.place_of.ensures.place told.0 told.1 });
    }
