use Rattle.std.proofs.Common.{◌-◌, take, ap, ◌∙◌}
use Rattle.script_lines.proofs.ReadingLaws.{moved_front}
use Rattle.script_lines.proofs.reader.shift.Goals as goal

pub returns-clause-moved : goal.returns-clause-moved
returns-clause-moved c = ap (take (c.args.to - c.args.from)) c.copy_within.ensures.items ∙ moved_front c.args.from c.args.to c.args.piece.now.items c.requires.order c.requires.inside
