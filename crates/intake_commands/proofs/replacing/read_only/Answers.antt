use Rattle.std.proofs.Common.{Some, None}
use Rattle.pgn_read.specs.Readers.{told}
use Rattle.intake_commands.proofs.OneGameLaws.{fresh_told, only_faulty, only_so}
use Rattle.intake_commands.proofs.replacing.read_only.Goals as goal

pub returns-in-Ok-None-read_behind-clause-only : goal.returns-in-Ok-None-read_behind-clause-only
returns-in-Ok-None-read_behind-clause-only g c = λ text is.
    let follows = rw (c.in-Ok-Some-Good.field-0-is, c.in-Ok-Some-Good.field-0-0-is) at c.in-Ok-Some-Good.ensures.item in
    only_so text (told c.in_ok-reader.reader (g.B.Source.left c.args.body.now)) (told c.next.new.self (g.B.Source.left c.next.new.source)) c.in-Ok-Some-Good.head c.in-Ok-Some-Good.game c.in-Ok-None-read_behind.field-0 None c.in-Ok-None-read_behind.field-0-is
    (fresh_told text c.in_ok-reader.reader (g.B.Source.left c.args.body.now) c.in_ok-reader.ensures.new is) follows c.in-Ok-None-read_behind.ensures.rest

pub returns-in-Ok-Some-clause-only : goal.returns-in-Ok-Some-clause-only
returns-in-Ok-Some-clause-only g c = λ text is.
    let follows = rw (c.in-Ok-Some-Good.field-0-is, c.in-Ok-Some-Good.field-0-0-is) at c.in-Ok-Some-Good.ensures.item in
    only_so text (told c.in_ok-reader.reader (g.B.Source.left c.args.body.now)) (told c.next.new.self (g.B.Source.left c.next.new.source)) c.in-Ok-Some-Good.head c.in-Ok-Some-Good.game c.in-Ok-Some.field-0 (Some c.in-Ok-Some.other) c.in-Ok-Some.field-0-is
    (fresh_told text c.in_ok-reader.reader (g.B.Source.left c.args.body.now) c.in_ok-reader.ensures.new is) follows c.in-Ok-Some.ensures.rest

pub returns-in-Ok-Some-clause-fit : goal.returns-in-Ok-Some-clause-fit
returns-in-Ok-Some-clause-fit g c = rw c.in-Ok-Some.field-0-is at c.in-Ok-Some.ensures.fit

pub returns-in-Ok-Some-Bad-clause-only : goal.returns-in-Ok-Some-Bad-clause-only
returns-in-Ok-Some-Bad-clause-only g c = λ text is.
    let follows = rw (c.in-Ok-Some-Bad.field-0-is, c.in-Ok-Some-Bad.field-0-0-is) at c.in-Ok-Some-Bad.ensures.item in
    only_faulty text (told c.in_ok-reader.reader (g.B.Source.left c.args.body.now)) (told c.next.new.self (g.B.Source.left c.next.new.source)) c.in-Ok-Some-Bad.fault
    (fresh_told text c.in_ok-reader.reader (g.B.Source.left c.args.body.now) c.in_ok-reader.ensures.new is) follows
