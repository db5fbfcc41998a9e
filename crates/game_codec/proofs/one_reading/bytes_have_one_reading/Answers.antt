use Rattle.game_codec.proofs.RecordAnswerLaws.{either, from_broken, from_spelled, fault-one, record-one, record-unbroken, to_broken, to_spelled}
use Rattle.game_codec.proofs.TagReadingLaws.{SpellsTag-tag_at, tag_at-SpellsTag}
use Rattle.game_codec.proofs.one_reading.bytes_have_one_reading.Goals as goal

pub returns : goal.returns
returns c = record {
  one_record = record-one;
  one_fault = fault-one;
  not_both = record-unbroken;
  one_of_both = either;
  spelled = λ bytes tags game. (to_spelled bytes tags game, from_spelled bytes tags game);
  broken = λ bytes fault. (to_broken bytes fault, from_broken bytes fault);
  tag = λ bytes tag later small. (SpellsTag-tag_at bytes tag later small, tag_at-SpellsTag bytes tag later);
}
