use Rattle.std.proofs.Common.{◌≡◌, drop}
use Rattle.pgn_read.specs.Heads.{rating_from}
use Rattle.pgn_read.proofs.heads.rating_from.Given as goal

-- The tags that are left tell it.
abbrev pub invariant-loop-tag : goal.invariant-loop-tag
invariant-loop-tag l = rating_from l.side (drop l.tag-index l.tags) ≡ rating_from l.side l.tags
