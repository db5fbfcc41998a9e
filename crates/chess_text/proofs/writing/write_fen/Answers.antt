use Rattle.chess_text.proofs.WritingLaws.{written_reads, written_zero_free}
use Rattle.chess_text.proofs.DigitLaws.{written_apart}
use Rattle.chess_text.proofs.writing.write_fen.Goals as goal

pub from_zero_free-requires : goal.from_zero_free-requires
from_zero_free-requires c =
    rw c.in_ok-bytes.ensures.ok (written_zero_free c.setup.result.now (rw c.setup.ensures.setup c.setup.ensures.sound))

pub returns-clause-read_again : goal.returns-clause-read_again
returns-clause-read_again c =
    rw (c.from_zero_free.ensures.bytes, c.in_ok-bytes.ensures.ok, c.setup.ensures.setup)
    (written_reads c.args.p.now c.setup.ensures.sound)

pub returns-clause-whole_runs : goal.returns-clause-whole_runs
returns-clause-whole_runs c =
    rw (c.from_zero_free.ensures.bytes, c.in_ok-bytes.ensures.ok) (written_apart c.setup.result.now)
