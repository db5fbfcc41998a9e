use Rattle.std.proofs.Common.{◌≡◌, ◌+◌, ◌++◌, ℕ, List, [], ◌∷◌, get_or, take, sym, ap, ◌∙◌, subst, add-one}
use Rattle.std.proofs.Math.Seq.{take-suc}
use Rattle.report_commands.proofs.TwinLaws.{marked_more}
use Rattle.report_commands.proofs.twin_marks.delete_all.Goals as goal
use Rattle.report_commands.specs.Ends.{Marked}
use Rattle.shell_state.proofs.EditedLaws.{same_count}

pub loop-game-preserved : goal.loop-game-preserved
loop-game-preserved c =
    let games = c.args.games.now in
    let i = c.loop-game.game-index in
    let next : take (i + 1) games ≡ take i games ++ get_or games i 0 ∷ [] = ap (λ (n : ℕ). take n games) (add-one i) ∙ take-suc games i 0 c.loop-game-test.true in
    record {
      marked = subst (λ (x : List ℕ). Marked x c.args.base.now c.delete.new.self) (sym next)
          (marked_more (take i games) (get_or games i 0) c.args.base.now c.loop-game.base c.delete.new.self c.loop-game.invariant.marked c.in_default.ensures.deleted c.in_default.ensures.heads);
      count = same_count c.loop-game.base c.delete.new.self c.in_default.ensures.heads ∙ c.loop-game.invariant.count;
    }
