use Rattle.std.proofs.Common.{ℕ, replicate, ap, ◌∙◌}
use Rattle.base_core.proofs.UseLaws.{no-uses}
use Rattle.base_core.proofs.uses.Uses.none.Goals as goal

pub returns : goal.returns
returns c = record {
  none = no-uses c.args.names.now c.in_ok-zeros.field-0.items c.in_ok-zeros-2.field-0.items c.in_ok-zeros-3.field-0.items c.in_ok-zeros-4.field-0.items
      (c.in_ok-zeros.ensures.zeros ∙ ap (λ (n : ℕ). replicate n 0) c.count.ensures.count)
      (c.in_ok-zeros-2.ensures.zeros ∙ ap (λ (n : ℕ). replicate n 0) c.count-2.ensures.count)
      (c.in_ok-zeros-3.ensures.zeros ∙ ap (λ (n : ℕ). replicate n 0) c.count-3.ensures.count)
      (c.in_ok-zeros-4.ensures.zeros ∙ ap (λ (n : ℕ). replicate n 0) c.count-4.ensures.count);
}
