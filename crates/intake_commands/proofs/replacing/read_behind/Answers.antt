use Rattle.std.proofs.Common.{◌+◌, refl, ◌∙◌, arith}
use Rattle.pgn_read.specs.Readers.{told}
use Rattle.intake_commands.proofs.OneGameLaws.{read_end, read_faulty, read_more}
use Rattle.intake_commands.proofs.replacing.read_behind.Goals as goal

pub returns-in-Ok-Some-Bad-clause-rest : goal.returns-in-Ok-Some-Bad-clause-rest
returns-in-Ok-Some-Bad-clause-rest g c = λ at is items are.
    let follows = rw (c.in-Ok-Some-Bad.field-0-is, c.in-Ok-Some-Bad.field-0-0-is) at c.in-Ok-Some-Bad.ensures.item in
    read_faulty at (told c.loop-number.reader (g.B.Source.left c.loop-number.body)) (told c.next.new.self (g.B.Source.left c.next.new.source)) c.loop-number.number c.loop-number.more c.in-Ok-Some-Bad.fault items
    (c.loop-number.invariant.read at is) follows are

pub returns-in-Ok-None-clause-rest : goal.returns-in-Ok-None-clause-rest
returns-in-Ok-None-clause-rest g c = λ at is items are.
    let follows = rw c.in-Ok-None.field-0-is at c.in-Ok-None.ensures.item in
    read_end at (told c.loop-number.reader (g.B.Source.left c.loop-number.body)) (told c.next.new.self (g.B.Source.left c.next.new.source)) c.loop-number.number c.loop-number.more items (c.loop-number.invariant.read at is) follows are

pub loop-number-preserved : goal.loop-number-preserved
loop-number-preserved g c =
    let follows = rw (c.in-Ok-Some-Good.field-0-is, c.in-Ok-Some-Good.field-0-0-is) at c.in-Ok-Some-Good.ensures.item in
    record {
      read = λ at is. read_more at (told c.loop-number.reader (g.B.Source.left c.loop-number.body)) (told c.next.new.self (g.B.Source.left c.next.new.source)) c.loop-number.number (c.loop-number.number + 1) c.loop-number.more
          c.in-Ok-Some-Good.field-0-0-0 c.in-Ok-Some-Good.field-0-0-1 (c.loop-number.invariant.read at is) follows refl;
      fit = tt;
      stuck = λ free. c.in-Ok-Some-Good.ensures.free;
      same = c.next.ensures.same ∙ c.loop-number.invariant.same;
      counts = omega (arith, c.loop-number.invariant.counts, c.next.ensures.counts);
    }
