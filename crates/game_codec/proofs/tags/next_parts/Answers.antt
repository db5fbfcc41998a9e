use Rattle.std.proofs.Common.{refl, arith}
use Rattle.std.proofs.lemmas.List.{nil_from_length}
use Rattle.game_codec.specs.TagReading.{tag_at}
use Rattle.game_codec.proofs.tags.next_parts.Goals as goal

pub returns-in-empty-clause-err : goal.returns-in-empty-clause-err
unfolding tag_at
returns-in-empty-clause-err c = rw (nil_from_length c.args.bytes.now (omega (arith, c.in-empty.len_below))) refl
