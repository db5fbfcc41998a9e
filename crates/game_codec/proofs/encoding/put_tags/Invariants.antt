use Rattle.std.proofs.Common.{◌≡◌, ◌++◌, drop}
use Rattle.game_codec.specs.Written.{tags_text}
use Rattle.game_codec.proofs.encoding.put_tags.Given as goal

-- What is left gives the same as all.
abbrev pub invariant-loop-tag : goal.invariant-loop-tag
invariant-loop-tag l = l.out.items ++ tags_text (drop l.tag-index l.tags) ≡ l.initial.out.items ++ tags_text l.tags
