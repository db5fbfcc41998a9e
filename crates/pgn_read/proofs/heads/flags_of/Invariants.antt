use Rattle.std.proofs.Common.{◌≡◌, ◌++◌, drop}
use Rattle.pgn_read.specs.Heads.{flags_of}
use Rattle.pgn_read.proofs.heads.flags_of.Given as goal

-- The letters so far and those of the tags that are left are all.
abbrev pub invariant-loop-tag : goal.invariant-loop-tag
invariant-loop-tag l = l.flags.items ++ flags_of (drop l.tag-index l.tags) ≡ flags_of l.tags
