use Rattle.game_codec.proofs.WrittenLaws.{written-read}
use Rattle.game_codec.proofs.round_trip.written_records_are_read.Goals as goal

pub returns : goal.returns
returns c = written-read
