use Rattle.std.proofs.Common.{None, sym, ◌∙◌}
use Rattle.std.proofs.lemmas.Bool.{OnTrue_from, eqb-false}
use Rattle.chess_text.proofs.san_writing.can_go_on.Goals as goal

pub returns : goal.returns
returns c =
    record {
      some = OnTrue_from c.is_legal.result _ (λ is. (
        record { from = c.args.from; to = c.at-to.result; promo = None },
        record { legal = c.is_legal.ensures.legal.0 is; leaves = eqb-false c.at-to.result c.args.from (sym c.eq.ensures ∙ c.if-eq.false) },
      ));
    }
