use Rattle.std.proofs.Common.{◌∙◌, arith}
use Rattle.pgn_read.proofs.ItemLaws.{goes_further, ends_item, ok_so}
use Rattle.pgn_read.proofs.reader.read_game.Goals as goal

pub tokens-preserved : goal.tokens-preserved
tokens-preserved g c = record {
  item =
      c.tokens.invariant.item
      ∙ goes_further c.tokens.game c.take_token.new.game _ _ _ (rw c.in-GoesOn.is at c.in-Ok.ensures.effect) (rw c.in-GoesOn.is at c.in-Ok.ensures.moved)
      c.in_default.ensures.skipped;
  told = c.in_default.ensures.told;
  balanced = c.in-Ok.ensures.balanced;
  legal = rw c.in-GoesOn.is at c.in-Ok.ensures.legal;
  spends = omega (arith, c.tokens.invariant.spends, c.take_token.ensures.spends, c.skip_gap.ensures.spends);
  faults = omega (arith, c.tokens.invariant.faults, c.take_token.ensures.counts, c.skip_gap.ensures.counts);
  same = c.skip_gap.ensures.same ∙ c.take_token.ensures.same ∙ c.tokens.invariant.same;
}

pub returns-in-Ends-clause-item : goal.returns-in-Ends-clause-item
returns-in-Ends-clause-item g c =
    ok_so c.end_item.result _ _
    (λ item is.
    c.tokens.invariant.item
    ∙ ends_item c.tokens.game c.take_token.new.game c.in-Ends.end _ _ (rw c.in-Ends.is at c.in-Ok.ensures.effect) (rw c.in-Ends.is at c.in-Ok.ensures.moved)
    (rw c.in-Ends.is at c.in-Ok.ensures.well)
    ∙ is)
    c.end_item.ensures.item
