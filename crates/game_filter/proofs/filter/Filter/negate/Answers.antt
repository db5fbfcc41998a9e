use Rattle.std.proofs.Common.{List, Option, ℕ, ap, arith, length, sym, ◌∙◌}
use Rattle.std.proofs.lemmas.List.{length-map}
use Rattle.game_filter.specs.Filter.{turned}
use Rattle.game_filter.proofs.Counts.{negated_count}
use Rattle.game_filter.proofs.filter.Filter.negate.Goals as goal

pub invariant_of-self : goal.invariant_of-self
invariant_of-self c =
    let old = c.self.inside.entries in
    let games = c.len-games.ensures.len ∙ ap (λ (l : List (Option ℕ)). length l) (sym c.self.view_is) in
    let same = ap (λ (l : List (Option ℕ)). length l) c.negate.ensures.negated ∙ length-map old turned in
    (omega (arith, same, c.self.invariant.0), negated_count old c.negate.new.self c.len-games.result c.self.inside.count c.negate.ensures.negated games c.self.invariant.1)
