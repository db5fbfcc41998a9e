-- A number of at most three bytes is below 2 ^ 24.
use Rattle.std.proofs.Common.{◌<◌, arith, subst, sym}
use Rattle.name_base.proofs.FieldLemmas.{big_number-small}
use Rattle.name_base.proofs.field.number_at.Goals as goal

pub overflow_cast-result : goal.overflow_cast-result
overflow_cast-result c =
    let small = big_number-small c.args.width c.args.bytes.now c.requires.few (λ i. omega (arith, c.type_inv.bytes i)) in
    omega (arith, small)

pub returns-clause-small : goal.returns-clause-small
returns-clause-small c =
    subst (λ n. n < 16777216) (sym c.read_uint.ensures) (big_number-small c.args.width c.args.bytes.now c.requires.few (λ i. omega (arith, c.type_inv.bytes i)))
