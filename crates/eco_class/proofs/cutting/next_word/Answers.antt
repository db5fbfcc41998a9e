use Rattle.std.proofs.Common.{◌≡◌, ◌<◌, length, sym, ◌∙◌, arith}
use Rattle.std.proofs.lemmas.Bool.{eqb-false, eqb-true}
use Rattle.eco_class.proofs.CutLemmas.{no_word, word_is, word_some}
use Rattle.eco_class.proofs.cutting.next_word.Goals as goal

pub returns-then-is_empty : goal.returns-then-is_empty
returns-then-is_empty c =
    let none : length c.split_at.result.1.now ≡ 0 = eqb-true (length c.split_at.result.1.now) 0 (sym c.is_empty.ensures ∙ c.if-is_empty.true) in
    record { words = no_word c.args.line.now c.split_at.result.1.now c.blanks_len.result c.blanks_len.ensures.len c.split_at.ensures.back none }

pub returns : goal.returns
returns c =
    let apart = eqb-false (length c.split_at.result.1.now) 0 (sym c.is_empty.ensures ∙ c.if-is_empty.false) in
    let some : 0 < length c.split_at.result.1.now = omega (arith, apart) in
    let first : 0 < c.word_len.result = word_some c.args.line.now c.split_at.result.1.now c.blanks_len.result c.word_len.result c.blanks_len.ensures.len c.split_at.ensures.back some c.word_len.ensures.len in
    record {
      words = (
        word_is c.args.line.now c.split_at.result.1.now c.split_at-2.result.0.now c.split_at-2.result.1.now c.blanks_len.result c.word_len.result
            c.blanks_len.ensures.len c.split_at.ensures.back some c.word_len.ensures.len c.split_at-2.ensures.front c.split_at-2.ensures.back,
        (let shorter : length c.split_at-2.result.1.now < length c.args.line.now = omega (arith, first, c.split_at.ensures.back_len, c.split_at-2.ensures.back_len) in shorter),
      );
    }
