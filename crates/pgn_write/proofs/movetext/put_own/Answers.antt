use Rattle.std.proofs.Common.{ℕ, List, ap, ◌∙◌}
use Rattle.chess_laws.specs.Step.{stepped}
use Rattle.game_tree.specs.Tree.{Played}
use Rattle.pgn_write.specs.Tokens.{Turn}
use Rattle.pgn_write.specs.Writing.{turn, put_all, nag_tokens, comment_tokens, move_tokens, own_tokens}
use Rattle.pgn_write.proofs.WritingLaws.{own-put, low-put_all}
use Rattle.pgn_write.proofs.movetext.put_own.Goals as goal

pub returns : goal.returns
returns c =
    let here : Turn = turn c.args.position.now c.args.number in
    let node : Played = c.args.node.now in
    let wrote =
    own-put here c.args.resumed node c.args.writer.now c.put_move.new.writer c.put_nags.new.writer c.put_comment.new.writer
    (c.in_ok-put_move.ensures.tokens ∙ ap (λ (x : Played). put_all (move_tokens here c.args.resumed x.mv) c.args.writer.now) c.node.view_is)
    (c.in_ok-put_nags.ensures.tokens
    ∙ ap (λ (ns : List ℕ). put_all (nag_tokens ns) c.put_move.new.writer) (c.as_slice.ensures.value ∙ ap (λ (x : Played). x.nags) c.node.view_is))
    (c.in_ok-put_comment.ensures.tokens ∙ ap (λ (x : Played). put_all (comment_tokens x.comment) c.put_nags.new.writer) c.node.view_is) in
    record {
      tokens = wrote;
      low = low-put_all c.args.position.now.side c.args.number (own_tokens here c.args.resumed node) c.args.writer.now c.put_comment.new.writer wrote c.requires.low;
      played = c.in_ok-put_move.ensures.played ∙ ap (λ (x : Played). stepped c.args.position.now x.mv) c.node.view_is;
    }
