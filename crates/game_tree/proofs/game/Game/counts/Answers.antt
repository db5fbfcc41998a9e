use Rattle.std.proofs.Common.{◌+◌, List, ap, ◌∙◌, arith}
use Rattle.std.specs.Option.{option_len}
use Rattle.game_tree.specs.Tree.{Played, line_of}
use Rattle.game_tree.specs.Counts.{variations_of, comments_of, nags_of}
use Rattle.game_tree.proofs.CountLemmas.{in_64_bits-whole, variations_in, variations-is, comments_in, comments-is, nags_in, nags-is}
use Rattle.game_tree.proofs.game.Game.counts.Goals as goal

pub returns-clause-variations : goal.returns-clause-variations
returns-clause-variations c =
    in_64_bits-whole _ _ _ c.count_line.ensures.fit.variations c.count_line.ensures.came.variations_are
    (omega (
      arith,
      variations-is (line_of c.as_slice.result.now),
      ap (λ (ps : List Played). variations_in (line_of ps)) c.as_slice.ensures.value,
      ap variations_of c.self.view_is,
    ))

pub returns-clause-comments : goal.returns-clause-comments
returns-clause-comments c =
    in_64_bits-whole _ _ _ c.count_line.ensures.fit.comments c.count_line.ensures.came.comments_are
    ((λ i. c.one_comment.ensures i + comments-is (line_of c.as_slice.result.now) i)
    ∙ ap (λ (ps : List Played). option_len c.self.inside.lead + comments_in (line_of ps)) c.as_slice.ensures.value ∙ ap comments_of c.self.view_is)

pub returns-clause-nags : goal.returns-clause-nags
returns-clause-nags c =
    in_64_bits-whole _ _ _ c.count_line.ensures.fit.nags c.count_line.ensures.came.nags_are
    (omega (
      arith,
      nags-is (line_of c.as_slice.result.now),
      ap (λ (ps : List Played). nags_in (line_of ps)) c.as_slice.ensures.value,
      ap nags_of c.self.view_is,
    ))
