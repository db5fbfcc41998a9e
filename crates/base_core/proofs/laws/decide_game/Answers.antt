use Rattle.std.proofs.Common.{ℕ, List, ap, ◌∙◌, sym, subst, take}
use Rattle.base_core.specs.Reading.{IsDecided}
use Rattle.base_core.proofs.SomeBase.{game_decided}
use Rattle.base_core.proofs.laws.decide_game.Goals as goal

pub returns-then-offset-len : goal.returns-then-offset-len
returns-then-offset-len c =
    let D : List ℕ → Type 0 = λ b. IsDecided b in
    record {
      decided = game_decided c.args.index.now c.args.games.now c.entry_of.result c.args.game c.in-Ok.entry (sym c.in-Ok.is ∙ c.unpack.ensures.exact) c.entry_of.ensures
          (subst D (c.split_at-then-offset-len.ensures.front ∙ ap (λ (b : List ℕ). take c.in-Ok.entry.len b) c.split_at.ensures.back) c.decide.ensures.decided);
    }
