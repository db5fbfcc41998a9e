use Rattle.std.proofs.Common.{◌∙◌, Ok, Err, sym, arith}
use Rattle.base_core.proofs.SomeBase.{fault_or_base, one_decided}
use Rattle.base_core.proofs.laws.files_mean_a_base_or_have_a_fault.Goals as goal

pub returns-in_default : goal.returns-in_default
returns-in_default c = record {
  one_of_both = λ strict. fault_or_base strict c.args.index.now c.args.names.now c.args.games.now (Err c.in_default.field-0) (sym c.in_default.is ∙ c.read_index.ensures.exact) tt;
}

pub loop-game-init : goal.loop-game-init
loop-game-init c = record { decided = λ i less. absurd (omega (arith, less)) }

pub loop-game-preserved : goal.loop-game-preserved
loop-game-preserved c = record { decided = one_decided c.args.index.now c.args.games.now c.loop-game.game c.loop-game.invariant.decided c.decide_game.ensures.decided }

pub returns : goal.returns
returns c = record {
  one_of_both = λ strict. fault_or_base strict c.args.index.now c.args.names.now c.args.games.now (Ok c.in-Ok.header) (sym c.in-Ok.is ∙ c.read_index.ensures.exact)
      (λ i less. c.loop-game.invariant.decided i (omega (arith, less, c.loop-game-test.false)));
}
