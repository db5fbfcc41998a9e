use Rattle.std.proofs.Common.{◌+◌, rules, sym, subst, arith}
use Rattle.base_core.specs.Represents.{Kept}
use Rattle.compact_base.specs.Drafting.{HasFirst}
use Rattle.compact_base.proofs.FirstLaws.{has-none, not-drafted}
use Rattle.compact_base.proofs.drafting.draft_of.Goals as goal

pub loop-i-init : goal.loop-i-init
loop-i-init c = record {
  within = omega arith;
  drafted = subst (λ (k : Kept). HasFirst 0 c.args.base.now k) (sym c.new-draft.ensures.empty) (has-none c.args.base.now);
}

pub returns-in_err-draft_game-clause-why : goal.returns-in_err-draft_game-clause-why
returns-in_err-draft_game-clause-why c =
    let told = not-drafted c.args.base.now.entries (c.loop-i.i + 1) c.in_err-draft_game.field-0.0 c.in_err-draft_game.ensures.why in
    search (rules, told)
