use Rattle.std.proofs.Common.{sym}
use Rattle.game_codec.proofs.DateLaws.{dates_begin, dates_found, dates_more, dates_none}
use Rattle.game_codec.proofs.event_date.event_date_in.Goals as goal

pub tags-init : goal.tags-init
tags-init c = dates_begin c.args.game c.args.bytes.now

pub returns-in-None-clause-first : goal.returns-in-None-clause-first
returns-in-None-clause-first c = dates_none c.args.game c.args.bytes.now c.tags.rest.now (rw c.in-None.is at c.next_date.ensures.next) c.tags.invariant

pub returns-then-is_some-clause-first : goal.returns-then-is_some-clause-first
returns-then-is_some-clause-first c =
    dates_found c.args.game c.args.bytes.now c.tags.rest.now c.in-Some.tag.used c.in-Some.tag.date (rw c.in-Some.is at c.next_date.ensures.next)
    (sym c.if-is_some.ensures) c.tags.invariant

pub tags-preserved : goal.tags-preserved
tags-preserved c =
    dates_more c.args.game c.args.bytes.now c.tags.rest.now c.split_at.result.1.now c.in-Some.tag.used c.in-Some.tag.date
    (rw c.in-Some.is at c.next_date.ensures.next) (sym c.if-is_some.ensures) c.split_at.ensures.back c.tags.invariant
