use Rattle.std.proofs.Common.{◌≡◌, drop}
use Rattle.pgn_read.specs.Field.{name_text}
use Rattle.pgn_read.specs.Heads.{value_of}
use Rattle.pgn_read.proofs.heads.value_of.Given as goal

-- The tags that are left tell it.
abbrev pub invariant-loop-tag : goal.invariant-loop-tag
invariant-loop-tag l = value_of (name_text l.name) (drop l.tag-index l.tags) ≡ value_of (name_text l.name) l.tags
