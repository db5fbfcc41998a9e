use Rattle.std.proofs.Common.{arith, ◌∙◌, ◌≡◌, ◌++◌, drop, take, subst}
use Rattle.command_runs.specs.Tagged.{tagged_lines}
use Rattle.command_runs.specs.Waiting.{Waiting}
use Rattle.command_runs.proofs.Lines.{begins_last, part_front, put_is}
use Rattle.command_runs.proofs.page.TagPage.put.Goals as goal

pub returns-clause-put : goal.returns-clause-put
returns-clause-put c =
    let P : Waiting → Type 0 = λ w. drop c.self.inside.written c.put_both.new.bytes.items ≡ w.bytes ++ tagged_lines w.begins c.args.tag.now (take c.line_size-count.result c.args.piece.now) in
    subst P c.self.view_is
    (put_is c.self.inside.bytes.items c.lead.result.now c.split_at-2.result.0.now c.put_both.new.bytes.items c.split_at.result.0.now c.args.piece.now c.args.tag.now c.self.inside.written c.line_size-count.result c.min.result c.self.inside.begins
    c.in_ok-put_both.ensures.both c.lead.ensures.lead c.split_at.ensures.front c.split_at-2.ensures.front c.self.invariant
    (c.line_size-count.ensures.some (omega (arith, c.split_at.ensures.front_len, c.min.ensures, c.requires.some)))
    (omega (arith, c.line_size-count.ensures.size)) c.line_size-count.ensures.fits (omega (arith, c.min.ensures)))

pub returns-clause-begins : goal.returns-clause-begins
returns-clause-begins c =
    begins_last c.args.self.now.begins c.args.piece.now c.split_at-2.result.0.now c.line_size-count.result 0
    (c.line_size-count.ensures.some (omega (arith, c.split_at.ensures.front_len, c.min.ensures, c.requires.some)))
    (omega (arith, c.line_size-count.ensures.fits, c.split_at.ensures.front_len, c.min.ensures))
    (c.split_at-2.ensures.front ∙ part_front c.split_at.result.0.now c.args.piece.now c.line_size-count.result c.min.result c.split_at.ensures.front c.line_size-count.ensures.fits (omega (arith, c.min.ensures)))
