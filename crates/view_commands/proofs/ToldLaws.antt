-- What views are told: none more, no more than a greater number, and first some and then others.
use Rattle.std.proofs.Common.{◌≡◌, ℕ, ◌+◌, ◌≤◌, Option, Some, None, sym, subst, ◌∙◌, arith}
use Rattle.tree_live.proofs.TellingLaws.{told-again, told-nothing-more, told-within}
use Rattle.tree_live.specs.Views.{Told}
use Rattle.view_commands.specs.Views.{IsToldAtMost}

pub told_same : {B : Type 0} (told : B → Told) (most : ℕ) (before after : Option B) → after ≡ before → IsToldAtMost told most before after
told_same told most None after same = same
told_same told most (Some view) after same = subst (IsToldAtMost told most (Some view)) (sym same) (told-nothing-more most (told view))

pub told_few : {B : Type 0} (told : B → Told) (few most : ℕ) (before after : Option B) → few ≤ most → IsToldAtMost told few before after → IsToldAtMost told most before after
told_few told few most None after less is = is
told_few told few most (Some before) None less is = tt
told_few told few most (Some before) (Some after) less is = told-within few most (told before) (told after) less is

pub told_twice : {B : Type 0} (told : B → Told) (first second most : ℕ) (before mid after : Option B) → first + second ≤ most → IsToldAtMost told first before mid
    → IsToldAtMost told second mid after → IsToldAtMost told most before after
told_twice told first second most None mid after less one two = subst (λ (view : Option _). IsToldAtMost told second view after) one two
told_twice told first second most (Some before) None after less one two = subst (IsToldAtMost told most (Some before)) (sym two) tt
told_twice told first second most (Some before) (Some mid) None less one two = tt
told_twice told first second most (Some before) (Some mid) (Some after) less one two = told-again first second most (told before) (told mid) (told after) less one two
