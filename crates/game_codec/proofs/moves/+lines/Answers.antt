use Rattle.std.proofs.Common.{◌≡◌, ℕ, ◌++◌, List, ap, subst, ◌∙◌}
use Rattle.game_tree.specs.Tree.{Played, Variation, branches_of, line_of}
use Rattle.game_tree.specs.Written.{comment_before, movetext_of}
use Rattle.game_codec.specs.Texts.{ended, texts_of}
use Rattle.game_codec.specs.Written.{moves_text}
use Rattle.game_codec.specs.Writing.{variations_text, variations_texts}
use Rattle.game_codec.proofs.WritingLaws.{left_more, moves-more, varied-node, varied-texts, texts-more, legal-more, end-more, end-all, texts-lead, variations-more, variations_texts-more, branches_legal-more}
use Rattle.game_codec.proofs.moves.+lines.Goals as goal

-- What was written, by another name.
written : {new : List ℕ} (old : List ℕ) {part same : List ℕ} → new ≡ old ++ part → part ≡ same → new ≡ old ++ same
written old is e = is ∙ ap (λ (bytes : List ℕ). old ++ bytes) e

pub put_line-loop-node-preserved : goal.put_line-loop-node-preserved
put_line-loop-node-preserved t c =
    let left = left_more c.args.line.now c.loop-node.node-index c.node-item.result c.loop-node-test.true c.node-item.is in
    let played = c.in_ok-put_node.ensures.played in
    record {
      legal = legal-more c.loop-node.position c.put_node.new.position c.args.line.now c.loop-node.node-index c.node-item.result left played c.loop-node.invariant.legal;
      moves = moves-more c.loop-node.position c.put_node.new.position c.args.line.now c.loop-node.node-index c.node-item.result _ _ _ left played c.in_ok-put_node.ensures.moves c.loop-node.invariant.moves;
      texts = texts-more c.args.line.now c.loop-node.node-index c.node-item.result _ _ _ left c.in_ok-put_node.ensures.texts c.loop-node.invariant.texts;
      end = end-more c.loop-node.position c.put_node.new.position c.args.line.now c.loop-node.node-index c.node-item.result _ left played c.loop-node.invariant.end;
    }

pub put_line-returns-clause-texts : goal.put_line-returns-clause-texts
put_line-returns-clause-texts t c =
    texts-lead c.args.lead.now c.args.line.now c.loop-node.node-index _ _ _ c.loop-node-test.false c.in_ok-put_comment.ensures.texts c.loop-node.invariant.texts

pub put_line-returns-clause-end : goal.put_line-returns-clause-end
put_line-returns-clause-end t c = end-all c.loop-node.position c.args.line.now c.loop-node.node-index _ c.loop-node-test.false c.loop-node.invariant.end

pub put_variations-loop-variation-preserved : goal.put_variations-loop-variation-preserved
put_variations-loop-variation-preserved t c =
    let left = left_more c.args.variations.now c.loop-variation.variation-index c.variation-item.result c.loop-variation-test.true c.variation-item.is in
    let lead = ap (λ (v : Variation). v.lead) c.variation.view_is in
    let line = ap line_of c.as_slice.ensures.value ∙ ap (λ (v : Variation). v.line) c.variation.view_is in
    let n = c.args.start.now in
    let same = c.copy-position.ensures.same in
    record {
      legal = branches_legal-more n.position c.args.variations.now c.loop-variation.variation-index c.variation-item.result left c.loop-variation.invariant.legal;
      moves = variations-more n c.args.variations.now c.loop-variation.variation-index c.variation-item.result _ c.push.new.self.items _ _ _ left c.in_ok-push.ensures.items
          (written c.push.new.self.items c.in_ok-put_line.ensures.moves (λ i. moves_text (same i) (same i) (comment_before (lead i) (movetext_of (line i)))))
          c.in_ok-push-2.ensures.items c.loop-variation.invariant.moves;
      texts = variations_texts-more c.args.variations.now c.loop-variation.variation-index c.variation-item.result _ _ _ left
          (written c.loop-variation.body.texts.items c.in_ok-put_line.ensures.texts (λ i. ended (texts_of (comment_before (lead i) (movetext_of (line i))))))
          c.loop-variation.invariant.texts;
    }

pub put_varied-returns-clause-moves : goal.put_varied-returns-clause-moves
put_varied-returns-clause-moves t c =
    let variations = ap branches_of c.as_slice.ensures.value ∙ ap (λ (p : Played). p.variations) c.node.view_is in
    varied-node c.args.position.now c.args.node.now c.args.body.now.moves.items c.put_own.new.body.moves.items c.put_variations.new.body.moves.items
    c.in_ok-put_own.ensures.moves
    (written c.put_own.new.body.moves.items c.in_ok-put_variations.ensures.moves (λ i. variations_text (c.copy-before.ensures.same i) (variations i)))

pub put_varied-returns-clause-texts : goal.put_varied-returns-clause-texts
put_varied-returns-clause-texts t c =
    let variations = ap branches_of c.as_slice.ensures.value ∙ ap (λ (p : Played). p.variations) c.node.view_is in
    varied-texts c.args.node.now c.args.body.now.texts.items c.put_own.new.body.texts.items c.put_variations.new.body.texts.items
    c.in_ok-put_own.ensures.texts (written c.put_own.new.body.texts.items c.in_ok-put_variations.ensures.texts (ap variations_texts variations))
