use Rattle.std.proofs.Common.{length, arith, ap, ◌∙◌}
use Rattle.std.proofs.lemmas.List.{length-drop}
use Rattle.command_runs.proofs.Joining.{grew_further, taken_more}
use Rattle.command_runs.proofs.writing.write_from.Goals as goal

pub loop-written-preserved : goal.loop-written-preserved
loop-written-preserved g c =
    let i = c.loop-written.invariant in
    record {
      kept = taken_more (g.K.Sink.taken c.loop-written.out) (g.K.Sink.taken c.write.new.self) c.args.bytes.now _ c.loop-written.written c.in-Ok.n c.split_at.ensures.back c.in-Ok.ensures.added ∙ i.kept;
      within = omega (arith, c.in-Ok.ensures.fits, i.within, ap length c.split_at.ensures.back, length-drop c.loop-written.written c.args.bytes.now);
      grew = grew_further (g.K.Sink.taken c.args.out.now) (g.K.Sink.taken c.loop-written.out) (g.K.Sink.taken c.write.new.self) _ i.grew c.in-Ok.ensures.added;
      counts = omega (arith, i.counts, c.write.ensures.counts);
    }
