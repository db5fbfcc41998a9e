use Rattle.std.proofs.Common.{refl}
use Rattle.game_codec.proofs.TagsSoFar.{read_more, read_all}
use Rattle.game_codec.proofs.tags.read_tags.Goals as goal

pub returns-in-End-clause-ok : goal.returns-in-End-clause-ok
returns-in-End-clause-ok c =
    read_all c.args.bytes.now c.loop-tags.rest.now c.loop-tags.tags.items _ c.loop-tags.invariant
    (rw c.in-End.is at c.in_ok-next_tag.ensures.ok) refl

pub loop-tags-preserved : goal.loop-tags-preserved
loop-tags-preserved c =
    let next = rw c.in-Tag.is at c.in_ok-next_tag.ensures.ok in
    rw (c.split_at.ensures.back, c.in_ok-put_free-in-Tag.ensures.free)
    (read_more c.args.bytes.now c.loop-tags.rest.now _ c.loop-tags.tags.items c.in-Tag.tag c.loop-tags.invariant next.0)
