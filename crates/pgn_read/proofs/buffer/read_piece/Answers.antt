use Rattle.std.proofs.Common.{arith, ◌+◌, ◌-◌, ℕ, List, sym, ap, ◌∙◌}
use Rattle.base_files.specs.Told.{before}
use Rattle.pgn_read.proofs.BufferLaws.{tail_read}
use Rattle.pgn_read.proofs.buffer.read_piece.Goals as goal

pub returns-in-Ok-clause-given : goal.returns-in-Ok-clause-given
returns-in-Ok-clause-given g c =
    c.in-Ok.ensures.given
    ∙ ap (λ (b : List ℕ). before b (g.S.Source.left c.read.new.self))
    (sym
    (tail_read c.args.kept c.in-Ok.n (c.args.kept + 4096 - c.args.kept) c.args.bytes.now c.read.new.into (omega (arith, c.requires.room))
    (omega (arith, c.in-Ok.ensures.fits, c.read.auto.into))))
