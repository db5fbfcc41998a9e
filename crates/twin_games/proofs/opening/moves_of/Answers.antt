use Rattle.std.proofs.Common.{◌≡◌, ℕ, List, take, refl, sym, ap, subst, ◌∙◌, arith}
use Rattle.game_codec.specs.Record.{IsRecord, IsSomeRecord}
use Rattle.game_tree.specs.Replay.{main_moves}
use Rattle.twin_games.specs.Twins.{first_moves}
use Rattle.twin_games.proofs.LineLemmas.{line_ends, one_more}
use Rattle.twin_games.proofs.opening.moves_of.Goals as goal

pub steps-init : goal.steps-init
steps-init c = record {
  bytes = refl;
  within = omega (arith, c.requires);
  moves = λ tags game is. c.new-moves.ensures.items ∙ ap (λ (k : ℕ). take k (main_moves game)) (sym c.requires);
}

pub steps-preserved : goal.steps-preserved
steps-preserved c =
    let played = rw c.in-Ok-Some.field-0-is at c.in-Ok-Some.ensures.played in
    record {
      bytes = played.1.1 ∙ c.steps.invariant.bytes;
      within = omega (arith, played.1.0, c.steps-test.true, c.ply.ensures.ply);
      moves = λ tags game is.
          let on : IsRecord c.steps.walk.bytes tags game = subst (λ (b : List ℕ). IsRecord b tags game) (sym c.steps.invariant.bytes) is in
          one_more game c.steps.moves.items c.push.new.self.items c.steps.walk.ply c.step.new.self.ply c.in-Ok-Some.m (c.steps.invariant.moves tags game is)
          c.in_ok-push-in-Ok-Some.ensures.items (sym c.in-Ok-Some.field-0-is ∙ c.in-Ok-Some.ensures.next tags game on) played.1.0;
    }

pub returns-in-Ok-None : goal.returns-in-Ok-None
returns-in-Ok-None c = λ tags game is.
    let on : IsRecord c.steps.walk.bytes tags game = subst (λ (b : List ℕ). IsRecord b tags game) (sym c.steps.invariant.bytes) is in
    line_ends game c.steps.moves.items c.steps.walk.ply c.args.depth (c.steps.invariant.moves tags game is) c.steps.invariant.within
    (sym c.in-Ok-None.field-0-is ∙ c.in-Ok-None.ensures.next tags game on)

pub returns-in-Err : goal.returns-in-Err
returns-in-Err c = λ is. c.in-Err.ensures.fault (subst IsSomeRecord (sym c.steps.invariant.bytes) is)

pub returns : goal.returns
returns c = λ tags game is.
    let all : c.steps.walk.ply ≡ c.args.depth = omega (arith, c.steps.invariant.within, c.steps-test.false, c.ply.ensures.ply) in
    c.steps.invariant.moves tags game is ∙ ap (λ (k : ℕ). first_moves k game) all
