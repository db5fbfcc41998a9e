use Rattle.std.proofs.Common.{arith, ◌-◌, ℕ, List, length, sym, ap, ◌∙◌}
use Rattle.base_files.specs.Told.{before}
use Rattle.script_lines.proofs.ReadingLaws.{tail_read}
use Rattle.script_lines.proofs.reader.read_behind.Goals as goal

pub returns-in-Ok-clause-given : goal.returns-in-Ok-clause-given
returns-in-Ok-clause-given g c =
    c.in-Ok.ensures.given
    ∙ ap (λ (b : List ℕ). before b (g.S.Source.left c.read.new.self))
    (sym
    (tail_read c.args.kept c.in-Ok.count (length c.args.piece.now - c.args.kept) c.args.piece.now c.read.new.into (omega (arith, c.requires.room))
    (omega (arith, c.in-Ok.ensures.fits, c.read.auto.into))))
