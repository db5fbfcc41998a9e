use Rattle.std.proofs.Common.{◌≡◌, ap, arith, length, set, ◌∙◌}
use Rattle.std.proofs.lemmas.List.{length-set}
use Rattle.std.specs.Option.{option_or}
use Rattle.game_filter.proofs.Counts.{count_in_more}
use Rattle.game_filter.proofs.Passes.{joined_step_at, joined_below_all}
use Rattle.game_filter.proofs.plies.unite.Goals as goal

pub loop-i-preserved : goal.loop-i-preserved
loop-i-preserved c = record {
  changed =
      c.set.ensures.changed ∙ ap (set c.loop-i.entries c.loop-i.i) c.either-ply.ensures.either
      ∙ joined_step_at option_or _ _ _ _ _ _ (omega arith) (omega arith) c.loop-i.invariant.changed c.get.ensures.entry c.get-in-loop-i.ensures.entry;
  counted = rw c.set.ensures.changed (grind (arith, count_in_more c.loop-i.entries c.loop-i.i c.either-ply.result (omega arith)));
  len = rw (c.set.ensures.changed, length-set c.loop-i.entries c.loop-i.i c.either-ply.result) c.loop-i.invariant.len;
}

pub returns-clause-joined : goal.returns-clause-joined
returns-clause-joined c =
    let n : c.loop-i.i ≡ length c.args.entries.now = omega arith in
    c.loop-i.invariant.changed ∙ rw n (joined_below_all option_or c.args.entries.now c.args.others.now c.requires.same_games)
