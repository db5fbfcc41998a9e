use Rattle.std.proofs.Common.{sym, ◌∙◌, arith}
use Rattle.book_pages.proofs.least.has_none.Goals as goal

pub returns : goal.returns
returns c = record {
  none = λ is. record {
    set = c.home_set.result;
    small = omega (arith, c.home_set.type_inv);
    bits = c.home_set.ensures.bits;
    none = sym c.has_part.ensures.any ∙ c.if-has_part.false;
  };
}
