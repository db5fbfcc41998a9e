use Rattle.game_codec.proofs.ReadingLaws.{begun-reading}
use Rattle.game_codec.proofs.reading.Reading.new.Goals as goal

pub invariant_of-result : goal.invariant_of-result
invariant_of-result c =
    begun-reading c.args.bytes.now _ c.begin.new.self.here c.in-Ok.used c.requires.few c.in-Ok.ensures.spelled c.begin.ensures.beginning c.split_at.ensures.back
    c.new.ensures.none c.in-Ok.ensures.begun
