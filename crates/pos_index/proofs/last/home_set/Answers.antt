use Rattle.std.proofs.Common.{◌∙◌, sym, arith}
use Rattle.chess_laws.specs.Counts.{is_home}
use Rattle.chess_laws.proofs.Home.{bits_no, bits_yes}
use Rattle.sig_index.proofs.AllowLemmas.{set_is}
use Rattle.pos_index.proofs.last.home_set.Goals as goal
use Rattle.pos_index.proofs.last.home_set.Goals.{then-is_home, else-is_home}

pub loop-value-preserved : goal.loop-value-preserved
loop-value-preserved c =
    elim c.if-is_home.branch [
      | then-is_home w ↦ rw w.set-is (bits_yes (is_home c.args.board.now) c.loop-value.set c.loop-value.value c.loop-value-test.true (sym c.is_home.ensures ∙ w.if-is_home.true) c.loop-value.invariant)
      | else-is_home w ↦ rw w.set-is (bits_no (is_home c.args.board.now) c.loop-value.set c.loop-value.value c.loop-value-test.true (sym c.is_home.ensures ∙ w.if-is_home.false) c.loop-value.invariant)
    ]

pub returns : goal.returns
returns c = record { homes = set_is c.args.board.now c.loop-value.set (omega arith) (λ v less. c.loop-value.invariant.done v less (omega arith)) }
