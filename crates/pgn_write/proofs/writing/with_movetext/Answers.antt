use Rattle.std.proofs.Common.{◌≡◌, List, true, ap, ◌∙◌}
use Rattle.game_tree.specs.Tree.{Played, line_of}
use Rattle.game_tree.specs.Game.{GameTree}
use Rattle.game_tree.specs.Written.{comment_before, movetext_of, movetext_of_game}
use Rattle.pgn_write.specs.Token.{Token, ending}
use Rattle.pgn_write.specs.Tokens.{tokens_from, first_turn}
use Rattle.pgn_write.specs.Writing.{put_all}
use Rattle.pgn_write.proofs.LayoutLaws.{game-layout, low-first}
use Rattle.pgn_write.proofs.writing.with_movetext.Goals as goal

pub put_line-requires-clause-low : goal.put_line-requires-clause-low
put_line-requires-clause-low c = low-first _ c.args.out.items c.new-writer.result c.new-writer.ensures.begun c.requires.some

pub returns : goal.returns
returns c =
    let tokens : List Token = tokens_from (first_turn c.args.g.now.start) (first_turn c.args.g.now.start) true (movetext_of_game c.args.g.now) in
    let wrote : c.put_line.new.writer ≡ put_all tokens c.new-writer.result =
    c.in_ok-put_line.ensures.tokens
    ∙ ap (λ (line : List Played).
    put_all (tokens_from (first_turn c.g.inside.start) (first_turn c.g.inside.start) true (comment_before c.g.inside.lead (movetext_of (line_of line)))) c.new-writer.result)
    c.as_slice.ensures.value
    ∙ ap (λ (g : GameTree). put_all (tokens_from (first_turn g.start) (first_turn g.start) true (movetext_of_game g)) c.new-writer.result) c.g.view_is in
    record {
      text =
          game-layout c.args.out.items c.into_written.result.items tokens (ending c.args.outcome)
          c.new-writer.result c.put_line.new.writer c.ending.new.self c.flush.new.self
          c.new-writer.ensures.begun wrote c.in_ok-ending.ensures.put c.in_ok-flush.ensures.flushed c.into_written.ensures.written;
    }
