use Rattle.std.proofs.Common.{◌<◌, length, sym, ◌∙◌, arith}
use Rattle.std.proofs.lemmas.Bool.{eqb-false, eqb-true}
use Rattle.eco_class.proofs.CutLemmas.{line_is, line_shorter, no_line}
use Rattle.eco_class.proofs.cutting.next_line.Goals as goal

pub returns-then-is_empty : goal.returns-then-is_empty
returns-then-is_empty c = record { lines = no_line c.args.text.now (eqb-true (length c.args.text.now) 0 (sym c.is_empty.ensures ∙ c.if-is_empty.true)) }

pub returns : goal.returns
returns c =
    let apart = eqb-false (length c.args.text.now) 0 (sym c.is_empty.ensures ∙ c.if-is_empty.false) in
    let some : 0 < length c.args.text.now = omega (arith, apart) in
    record {
      lines = (
        line_is c.args.text.now c.split_at.result.0.now c.split_at.result.1.now c.without_first.result.now c.line_len.result some
            c.line_len.ensures.len c.split_at.ensures.front c.split_at.ensures.back c.without_first.ensures,
        line_shorter c.args.text.now c.split_at.result.1.now c.without_first.result.now some (omega (arith, c.split_at.ensures.back_len)) c.without_first.ensures,
      );
    }
