use Rattle.std.proofs.Common.{◌≡◌, ◌≤◌, ◌+◌, ◌*◌, ◌%◌, ◌^◌, arith}
use Rattle.std.proofs.Math.Pow.{pow_mono}
use Rattle.std.proofs.lemmas.Nat.{pow-add}
use Rattle.base_core.proofs.MarkLaws.{with_mark-few}
use Rattle.base_core.proofs.marking.with_mark.Goals.{then-on, else-on}
use Rattle.base_core.proofs.marking.with_mark.Goals as goal

pub overflow_mul-above : goal.overflow_mul-above
overflow_mul-above c =
    let within : c.args.bit ≤ 17 = omega (arith, c.requires.mark) in
    let small : 2 ^ c.args.bit ≤ 2 ^ 17 = pow_mono within in
    omega (arith, small)

pub overflow_mul-above-2 : goal.overflow_mul-above-2
overflow_mul-above-2 c =
    let within : c.args.bit ≤ 17 = omega (arith, c.requires.mark) in
    let small : 2 ^ c.args.bit ≤ 2 ^ 17 = pow_mono within in
    omega (arith, small)

pub returns-clause-few : goal.returns-clause-few
returns-clause-few c =
    let within : c.args.bit ≤ 17 = omega (arith, c.requires.mark) in
    let small : 2 ^ c.args.bit ≤ 2 ^ 17 = pow_mono within in
    let one : 1 * 2 ^ c.args.bit % 4294967296 ≡ 2 ^ c.args.bit = omega (arith, small) in
    let two : 1 * 2 ^ c.args.bit % 4294967296 * 2 ≡ 2 ^ (c.args.bit + 1) = omega (arith, one, pow-add 2 c.args.bit 1) in
    let this : c.if-on.this ≤ 2 ^ c.args.bit = elim c.if-on.branch [
      | then-on w ↦ omega (arith, w.this-is, one)
      | else-on w ↦ omega (arith, w.this-is)
    ] in
    rw (two, one) (with_mark-few c.args.marks c.args.bit c.if-on.this c.requires.few c.requires.mark this)
