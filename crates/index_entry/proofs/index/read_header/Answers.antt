-- A number of three bytes is below 2 ^ 24.
use Rattle.std.proofs.Common.{◌<◌, ℕ, drop, subst, sym, arith}
use Rattle.byteorder.specs.Numbers.{big_from-lt}
use Rattle.index_entry.proofs.BitLemmas.{IsBytes-drop}
use Rattle.index_entry.proofs.index.read_header.Goals as goal

pub returns-clause-sound : goal.returns-clause-sound
returns-clause-sound c = record {
  games = omega arith;
  autoload = subst (λ (n : ℕ). n < 16777216) (sym c.three.ensures) (big_from-lt 0 3 (drop 17 c.args.bytes.now) (IsBytes-drop 17 c.args.bytes.now (λ i. omega (arith, c.type_inv.bytes i))));
}
