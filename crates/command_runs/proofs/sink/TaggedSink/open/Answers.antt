use Rattle.std.proofs.Common.{◌≡◌, ap, sym}
use Rattle.command_runs.specs.Rendered.{Opening}
use Rattle.command_runs.proofs.Texts.{rendered_first}
use Rattle.command_runs.proofs.sink.TaggedSink.open.Goals as goal

pub invariant_of-result : goal.invariant_of-result
invariant_of-result g c =
    let o : Opening = g.O.Opens.opening in
    record {
      tagged = sym (ap (λ (x : Opening). x.tag) c.requires.begins);
      out_name = sym (ap (λ (x : Opening). x.out_name) c.requires.begins);
      page_name = sym (ap (λ (x : Opening). x.page_name) c.requires.begins);
      rendered = rendered_first o (g.K.Sink.taken c.args.way.out.now) (g.K.Sink.faults c.args.way.out.now) c.clear.new.self (ap (λ (x : Opening). x.told) c.requires.begins) (ap (λ (x : Opening). x.faults) c.requires.begins) c.clear.ensures.nothing;
    }
