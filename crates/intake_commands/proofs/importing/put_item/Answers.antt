use Rattle.intake_commands.proofs.PagingLaws.{line_halted}
use Rattle.intake_commands.proofs.importing.put_item.Goals as goal

pub returns-in-Ok-clause-halted : goal.returns-in-Ok-clause-halted
returns-in-Ok-clause-halted g c =
    line_halted (g.K.Sink.taken c.args.out.now) (g.K.Sink.taken c.write_full.new.out) c.args.page.now.items c.args.line.now c.extend_from_slice.new.self.items c.write_full.new.page.items c.in_ok-extend_from_slice.ensures.items c.write_full.ensures.kept

pub returns-in-Err-clause-halted : goal.returns-in-Err-clause-halted
returns-in-Err-clause-halted g c =
    line_halted (g.K.Sink.taken c.args.out.now) (g.K.Sink.taken c.write_full.new.out) c.args.page.now.items c.args.line.now c.extend_from_slice.new.self.items c.write_full.new.page.items c.in_ok-extend_from_slice.ensures.items c.write_full.ensures.kept
