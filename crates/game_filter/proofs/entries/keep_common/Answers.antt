use Rattle.std.proofs.Common.{◌≡◌, ap, arith, get_or, inl, inr, ◌∙◌}
use Rattle.std.specs.Int.Bits.{bit_and}
use Rattle.std.proofs.lemmas.Bool.{cases_eq}
use Rattle.std.proofs.lemmas.List.{get_or-set_same, get_or-set_other}
use Rattle.game_filter.proofs.entries.keep_common.Goals as goal

pub loop-i-preserved : goal.loop-i-preserved
loop-i-preserved c =
    let words = c.loop-i.words in
    let others = c.args.others.now in
    let i = c.loop-i.i in
    let word = bit_and (get_or words i 0) (get_or others i 0) in
    record {
      done = λ k below. elim (cases_eq k i) [
        | inl here ↦
            rw here (get_or-set_same words i word 0 (omega (arith, c.loop-i-test.true, c.loop-i.auto.words))
            ∙ ap (λ old. bit_and old (get_or others i 0)) (c.loop-i.invariant.rest i (omega arith)))
        | inr apart ↦ get_or-set_other words i k word 0 apart ∙ c.loop-i.invariant.done k (omega (arith, below, apart))
      ];
      rest = λ k from.
          let apart : k ≡ i → ⊥ = λ here. absurd (omega (arith, here, from)) in
          get_or-set_other words i k word 0 apart ∙ c.loop-i.invariant.rest k (omega (arith, from));
    }
