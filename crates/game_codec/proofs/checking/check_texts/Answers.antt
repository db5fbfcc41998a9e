use Rattle.std.proofs.Common.{◌+◌, take, drop, length-take, arith}
use Rattle.game_codec.proofs.CheckLaws.{HasSeen-more, full_of-is}
use Rattle.game_codec.proofs.checking.check_texts.Goals as goal

pub loop-read-preserved : goal.loop-read-preserved
loop-read-preserved c =
    let len = c.in-Some.len in
    let rest = c.loop-read.rest.now in
    let place = c.in-Some.ensures.place in
    let full = full_of-is (take len rest) len (omega (arith, length-take len rest, place.1.0)) in (
      rw c.split_at.ensures.back
          (HasSeen-more c.args.bytes.now rest (drop (len + 1) rest) (take len rest) c.loop-read.read c.loop-read.some _ c.loop-read.invariant.0 place.0 place.1.1
          (omega (arith, full, c.min-some.ensures))),
      omega (arith, c.loop-read-test.true),
    )
