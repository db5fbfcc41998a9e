use Rattle.std.proofs.Common.{ap, ◌∙◌}
use Rattle.pgn_read.specs.Bytes.{is_of, front}
use Rattle.pgn_read.proofs.ClearLaws.{room_behind}
use Rattle.pgn_read.proofs.run.split_run_behind.Goals as goal

pub split_at-requires-2 : goal.split_at-requires-2
split_at-requires-2 c =
    room_behind c.args.run c.args.known c.split_run.result.0.now c.args.bytes.now c.requires.known
    (c.split_run.ensures.front ∙ ap (front (is_of c.args.run)) c.split_at.ensures.back)
