use Rattle.chess_laws.proofs.Words.{refl, sym, ◌∙◌, arith, w64, bit_at-trailing_zeros}
use Rattle.chess_laws.proofs.Sets.{highest, highest_before, lowest_before}
use Rattle.chess_laws.proofs.sliding.first_on.Goals as goal

pub returns-then-rises : goal.returns-then-rises
returns-then-rises c =
    let lowest = bit_at-trailing_zeros w64 c.args.squares (omega (arith, c.if-squares-eq0.false)) c.ranges.squares.fits in record {
      some = (lowest.0, lowest.1);
      first = λ a. lowest_before c.args.squares _ a _ (sym c.rises.ensures ∙ c.if-rises.true) c.if-squares-eq0.false c.ranges.squares.fits refl;
    }

pub returns-else-rises : goal.returns-else-rises
returns-else-rises c = record {
  some = (c.ilog2.ensures.bound, highest c.args.squares c.ilog2.result c.ilog2.ensures.power_le c.ilog2.ensures.next_power_gt);
  first = λ a. highest_before c.args.squares c.ilog2.result _ a _ (sym c.rises.ensures ∙ c.if-rises.false) c.ilog2.ensures.next_power_gt refl;
}
