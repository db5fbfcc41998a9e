-- What a view was told, after one call or more.
use Rattle.std.proofs.Common.{ℕ, ◌+◌, ◌≤◌, refl, ◌∙◌, arith}
use Rattle.tree_live.specs.Views.{Told, ToldMore}

pub told-nothing-more : (most : ℕ) (told : Told) → ToldMore most told told
told-nothing-more most told = record { same = refl; few = omega arith }

pub told-within : (few most : ℕ) (before after : Told) → few ≤ most → ToldMore few before after → ToldMore most before after
told-within few most before after within more = record { same = more.same; few = omega (arith, within, more.few) }

pub told-again : (first second most : ℕ) (before mid after : Told) → first + second ≤ most → ToldMore first before mid → ToldMore second mid after
    → ToldMore most before after
told-again first second most before mid after within one two = record {
  same = two.same ∙ one.same;
  few = omega (arith, within, one.few, two.few);
}
