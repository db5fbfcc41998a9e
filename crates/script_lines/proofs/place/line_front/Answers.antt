use Rattle.std.proofs.Common.{arith, refl, sym, ◌+◌, ◌<◌, length, true, false, ◌∙◌}
use Rattle.script_lines.proofs.BodyLaws.{behind_feed, feed_inside, too_long, word_at, word_kept}
use Rattle.script_lines.proofs.ScriptLaws.{feed_at_position}
use Rattle.script_lines.proofs.place.line_front.Goals as goal

pub returns-then-is_word : goal.returns-then-is_word
returns-then-is_word c = record {
  says = (
    refl,
    (
      behind_feed c.args.bytes.now c.in-Some.place c.in-Some.ensures.place,
      word_at c.args.word.now c.args.bytes.now c.split_at.result.0.now c.in-Some.place true c.in-Some.ensures.place c.split_at.ensures.front c.if-is_word.ensures.word,
    ),
  );
}

pub returns-else-is_word : goal.returns-else-is_word
returns-else-is_word c =
    let below : c.in-Some.place < length c.args.bytes.now = feed_inside c.args.bytes.now c.in-Some.place c.in-Some.ensures.place in
    record {
      says = (
        omega (arith, below),
        λ more.
            word_kept c.args.word.now c.args.bytes.now more c.in-Some.place (sym (c.in-Some.ensures.place ∙ feed_at_position c.args.bytes.now))
            ∙ word_at c.args.word.now c.args.bytes.now c.split_at.result.0.now c.in-Some.place false c.in-Some.ensures.place c.split_at.ensures.front c.if-is_word.ensures.word,
      );
    }

pub returns-else-bytes-word : goal.returns-else-bytes-word
returns-else-bytes-word c =
    let long : length c.args.word.now + 1 < length c.args.bytes.now = omega (arith, c.if-bytes-word.false) in
    record {
      says = (
        omega (arith, long),
        λ more. too_long c.args.word.now c.args.bytes.now more (sym (c.in-None.ensures.place ∙ feed_at_position c.args.bytes.now)) long,
      );
    }
