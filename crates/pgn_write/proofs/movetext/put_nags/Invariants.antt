use Rattle.std.proofs.Common.{◌≡◌, drop}
use Rattle.pgn_write.specs.Writing.{put_all, nag_tokens}
use Rattle.pgn_write.proofs.movetext.put_nags.Given as goal

-- What is left gives the same as all.
abbrev pub invariant-loop-nag : goal.invariant-loop-nag
invariant-loop-nag l = put_all (nag_tokens (drop l.nag-index l.nags)) l.writer ≡ put_all (nag_tokens l.nags) l.initial.writer
