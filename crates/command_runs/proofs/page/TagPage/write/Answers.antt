use Rattle.std.proofs.Common.{◌∙◌, ap, sym, ◌++◌, ℕ, List, take, inl, inr}
use Rattle.base_files.specs.Told.{adds}
use Rattle.command_runs.specs.Tagged.{tagged_lines}
use Rattle.command_runs.specs.Waiting.{Waiting}
use Rattle.command_runs.proofs.Texts.{by_one, rendered_more, rendered_still, said_still, said_then}
use Rattle.command_runs.proofs.page.TagPage.write.Goals as goal

pub returns-in-Ok-clause-added : goal.returns-in-Ok-clause-added
returns-in-Ok-clause-added g c = λ o tag r.
    said_then o (g.K.Sink.taken c.args.out.now) (g.K.Sink.taken c.add.new.out) (g.K.Sink.faults c.args.out.now) c.args.self.now c.add.new.self (take c.in-Ok.count c.args.piece.now)
    c.add.ensures.grew (c.in-Ok.ensures.put ∙ ap (λ (t : List ℕ). adds (g.K.Sink.taken c.args.out.now) (c.args.self.now.bytes ++ tagged_lines c.args.self.now.begins t (take c.in-Ok.count c.args.piece.now))) (sym tag)) c.in-Ok.ensures.begins r

pub returns-in-Ok-clause-rendered : goal.returns-in-Ok-clause-rendered
returns-in-Ok-clause-rendered g c = λ o tag r.
    rendered_more o (g.K.Sink.taken c.args.out.now) (g.K.Sink.taken c.add.new.out) (g.K.Sink.faults c.args.out.now) (g.K.Sink.faults c.add.new.out) c.args.self.now c.add.new.self (take c.in-Ok.count c.args.piece.now)
    c.add.ensures.grew c.add.ensures.counts (c.in-Ok.ensures.put ∙ ap (λ (t : List ℕ). adds (g.K.Sink.taken c.args.out.now) (c.args.self.now.bytes ++ tagged_lines c.args.self.now.begins t (take c.in-Ok.count c.args.piece.now))) (sym tag)) c.in-Ok.ensures.begins c.add.ensures.same r

pub returns-in-Err-Failed-clause-none_added : goal.returns-in-Err-Failed-clause-none_added
returns-in-Err-Failed-clause-none_added g c = λ o tag r.
    said_still o (g.K.Sink.taken c.args.out.now) (g.K.Sink.taken c.add.new.out) (g.K.Sink.faults c.args.out.now) c.args.self.now c.fail.new.self
    c.add.ensures.grew (ap (λ (w : Waiting). adds (g.K.Sink.taken c.add.new.out) w.bytes) c.fail.ensures.counted ∙ c.in-Err-Failed.ensures.kept) (ap (λ (w : Waiting). w.begins) c.fail.ensures.counted ∙ c.in-Err-Failed.ensures.line) r

pub returns-in-Err-Failed-clause-rendered : goal.returns-in-Err-Failed-clause-rendered
returns-in-Err-Failed-clause-rendered g c = λ o tag r.
    rendered_still o (g.K.Sink.taken c.args.out.now) (g.K.Sink.taken c.add.new.out) (g.K.Sink.faults c.args.out.now) (g.K.Sink.faults c.add.new.out) c.args.self.now c.fail.new.self
    c.add.ensures.grew c.add.ensures.counts (ap (λ (w : Waiting). adds (g.K.Sink.taken c.add.new.out) w.bytes) c.fail.ensures.counted ∙ c.in-Err-Failed.ensures.kept) (ap (λ (w : Waiting). w.begins) c.fail.ensures.counted ∙ c.in-Err-Failed.ensures.line)
    (inr (by_one (g.K.Sink.faults c.args.out.now) (g.K.Sink.faults c.add.new.out) (rw c.in-Err-Failed.field-0-is at c.in-Err-Failed.ensures.cause))) r

pub returns-in-Err-Memory-clause-none_added : goal.returns-in-Err-Memory-clause-none_added
returns-in-Err-Memory-clause-none_added g c = λ o tag r.
    said_still o (g.K.Sink.taken c.args.out.now) (g.K.Sink.taken c.add.new.out) (g.K.Sink.faults c.args.out.now) c.args.self.now c.add.new.self
    c.add.ensures.grew c.in-Err-Memory.ensures.kept c.in-Err-Memory.ensures.line r

pub returns-in-Err-Memory-clause-rendered : goal.returns-in-Err-Memory-clause-rendered
returns-in-Err-Memory-clause-rendered g c = λ o tag r.
    rendered_still o (g.K.Sink.taken c.args.out.now) (g.K.Sink.taken c.add.new.out) (g.K.Sink.faults c.args.out.now) (g.K.Sink.faults c.add.new.out) c.args.self.now c.add.new.self
    c.add.ensures.grew c.add.ensures.counts c.in-Err-Memory.ensures.kept c.in-Err-Memory.ensures.line (inl c.add.ensures.same) r
