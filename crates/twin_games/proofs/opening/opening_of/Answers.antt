use Rattle.std.proofs.Common.{ℕ, List, sym, ap, subst, ◌∙◌}
use Rattle.game_codec.specs.Record.{IsRecord, IsSomeRecord}
use Rattle.game_tree.specs.Replay.{position_at}
use Rattle.twin_games.specs.Keys.{start_of}
use Rattle.twin_games.proofs.opening.opening_of.Goals as goal

pub returns-in-Some : goal.returns-in-Some
returns-in-Some c = λ tags game is.
    let on : IsRecord c.in-Ok.walk.bytes tags game = subst (λ (b : List ℕ). IsRecord b tags game) (sym c.in-Ok.ensures.bytes) is in
    record {
      start = c.start_of-start.ensures ∙ ap start_of (c.position.ensures.replay tags game on ∙ ap (position_at game) c.in-Ok.ensures.start);
      moves = (rw c.in-Some.is at c.in_ok-moves.ensures) tags game on;
    }

pub returns-in-None : goal.returns-in-None
returns-in-None c = λ is. (rw c.in-None.is at c.in_ok-moves.ensures) (subst IsSomeRecord (sym c.in-Ok.ensures.bytes) is)
