use Rattle.std.proofs.Common.{◌≡◌, ℕ, ◌+◌, Bool, List, true, false, drop, sym, ap, ◌∙◌, arith}
use Rattle.cell_core.specs.declared.man.Colour.{Colour}
use Rattle.chess_laws.specs.declared.setup.Setup.{Setup}
use Rattle.chess_laws.specs.Step.{stepped}
use Rattle.game_tree.specs.Tree.{Branches, Played, Variation, line_of, branches_of}
use Rattle.game_tree.specs.Written.{comment_before, movetext_of}
use Rattle.pgn_write.specs.Tokens.{Turn, tokens_from, number_behind}
use Rattle.pgn_write.specs.Writing.{Writing, put_all, size, turn, branch_tokens, has_variations, node_tokens}
use Rattle.pgn_write.proofs.WritingLaws.{left_more, low-put_all, low-bound, low-next, line-more, legal-more, node-put, no-branches, one_branch, branch-put, branches-more, branches_legal-more}
use Rattle.pgn_write.proofs.movetext.+lines.Goals as goal

pub put_line-loop-node-preserved : goal.put_line-loop-node-preserved
put_line-loop-node-preserved t c =
    let p : Setup = c.loop-node.position in
    let q : Setup = c.put_node.new.position in
    let n : ℕ = c.loop-node.number in
    let n' : ℕ = c.number_behind-number.result in
    let node : Played = c.node-item.result in
    let now : Writing = c.loop-node.writer in
    let next : Writing = c.put_node.new.writer in
    let rest : List Played = drop (c.loop-node.node-index + 1) c.args.line.now in
    let left = left_more c.args.line.now c.loop-node.node-index node c.loop-node-test.true c.node-item.is in
    let stepping : q ≡ stepped p node.mv = c.in_ok-put_node.ensures.played in
    let counted : n' ≡ number_behind p.side n = c.number_behind-number.ensures ∙ ap (λ (side : Colour). number_behind side n) c.side-mover.ensures.side in
    record {
      legal = legal-more p q c.args.line.now c.loop-node.node-index node left stepping c.loop-node.invariant.legal;
      low = low-next p q n n' c.loop-node.resumed node now next stepping counted c.in_ok-put_node.ensures.tokens c.loop-node.invariant.low;
      tokens =
          ap (λ (b : Bool). put_all (tokens_from (turn q n') (turn q n') b (movetext_of (line_of rest))) next) c.is_resumed-resumed.ensures
          ∙ line-more p q n n' c.loop-node.resumed c.args.line.now c.loop-node.node-index node now next _ left stepping counted
          c.in_ok-put_node.ensures.tokens c.loop-node.invariant.tokens;
    }

pub put_line-prove-unreachable-requires : goal.put_line-prove-unreachable-requires
put_line-prove-unreachable-requires t c =
    let low =
    low-put_all c.loop-node.position.side c.loop-node.number
    (node_tokens (turn c.loop-node.position c.loop-node.number) c.loop-node.resumed c.node-item.result)
    c.loop-node.writer c.put_node.new.writer c.in_ok-put_node.ensures.tokens c.loop-node.invariant.low in
    let bound = low-bound c.loop-node.position.side c.loop-node.number (size c.put_node.new.writer) low in
    let counted = c.size-bytes.ensures.size in
    let over = c.if-prove.true in
    omega (arith, bound, counted, over)

pub put_branches-loop-branch-preserved : goal.put_branches-loop-branch-preserved
put_branches-loop-branch-preserved t c =
    let here : Turn = turn c.args.start.now c.args.first in
    let v : Variation = c.branch-item.result in
    let left = left_more c.args.branches.now c.loop-branch.branch-index v c.loop-branch-test.true c.branch-item.is in
    let lead = ap (λ (x : Variation). x.lead) c.branch.view_is in
    let line = ap line_of c.as_slice.ensures.value ∙ ap (λ (x : Variation). x.line) c.branch.view_is in
    let inner : c.put_line.new.writer ≡ put_all (tokens_from here here true (comment_before v.lead (movetext_of v.line))) c.open.new.self =
    c.in_ok-put_line.ensures.tokens
    ∙ (λ i. put_all (tokens_from here here true (comment_before (lead i) (movetext_of (line i)))) c.open.new.self) in
    let wrote =
    branch-put here v c.loop-branch.writer c.open.new.self c.put_line.new.writer c.close.new.self
    c.in_ok-open.ensures.put inner c.in_ok-close.ensures.put in
    record {
      legal = branches_legal-more c.args.start.now c.args.branches.now c.loop-branch.branch-index v left c.loop-branch.invariant.legal;
      low = low-put_all c.args.start.now.side c.args.first (one_branch here v) c.loop-branch.writer c.close.new.self wrote c.loop-branch.invariant.low;
      tokens = branches-more here c.args.branches.now c.loop-branch.branch-index v c.loop-branch.writer c.close.new.self _ left wrote c.loop-branch.invariant.tokens;
    }

pub put_node-returns-then-not-has_variations : goal.put_node-returns-then-not-has_variations
put_node-returns-then-not-has_variations t c =
    let here : Turn = turn c.args.position.now c.args.number in
    let variations = ap branches_of c.as_slice.ensures.value ∙ ap (λ (x : Played). x.variations) c.node.view_is in
    let alone : has_variations c.args.node.now.variations ≡ false =
    ap (λ (b : Branches). has_variations b) (sym variations) ∙ sym c.has_variations.ensures ∙ c.if-not-has_variations.true in
    record {
      tokens =
          node-put here c.args.resumed c.args.node.now c.args.writer.now c.put_own.new.writer c.put_own.new.writer c.in_ok-put_own.ensures.tokens
          (no-branches here c.args.node.now.variations c.put_own.new.writer alone);
      played = c.in_ok-put_own.ensures.played;
    }

pub put_node-returns : goal.put_node-returns
put_node-returns t c =
    let here : Turn = turn c.args.position.now c.args.number in
    let variations = ap branches_of c.as_slice-2.ensures.value ∙ ap (λ (x : Played). x.variations) c.node.view_is in
    record {
      tokens =
          node-put here c.args.resumed c.args.node.now c.args.writer.now c.put_own-2.new.writer c.put_branches.new.writer c.in_ok-put_own-2.ensures.tokens
          (c.in_ok-put_branches.ensures.tokens ∙ ap (λ (b : Branches). put_all (branch_tokens here b) c.put_own-2.new.writer) variations);
      played = c.in_ok-put_own-2.ensures.played;
    }
