use Rattle.std.proofs.Common.{◌≡◌, None, drop, false, map, string_bytes, option_map}
use Rattle.shell_session.specs.Words.{with_words}
use Rattle.shell_session.proofs.words.words_read.Given as goal

-- The words that are left say with those before them what all of them say.
abbrev pub invariant-loop-word : goal.invariant-loop-word
invariant-loop-word l =
    with_words (record { name = option_map (λ name. name.now) l.said.base; create = l.said.create; strict = l.said.strict; desk = l.said.desk }) (map string_bytes (drop l.word-index l.words))
    ≡ with_words (record { name = None; create = false; strict = false; desk = false }) (map string_bytes l.fn.words)
