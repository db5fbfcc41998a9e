use Rattle.std.proofs.Common.{◌≡◌, ◌≤◌, ℕ, OnOk, length, arith, subst, Option, List, ◌∙◌}
use Rattle.base_files.proofs.Telling.{Grew-trans}
use Rattle.base_files.specs.Told.{Grew, adds}
use Rattle.search_commands.proofs.HitLines.{lines_put, begun, waiting, all_put}
use Rattle.search_commands.proofs.hit_lines.put_hits.Given as given
use Rattle.search_commands.proofs.hit_lines.put_hits.Goals as goal
use Rattle.shell_state.specs.Lines.{hits_text}

pub returns-in_err-put_game-clause-none_lost : goal.returns-in_err-put_game-clause-none_lost
returns-in_err-put_game-clause-none_lost g c = Grew-trans _ _ _ c.loop-game.invariant.none_lost c.put_game.ensures.none_lost

pub returns-in_err-put_game-clause-no_more : goal.returns-in_err-put_game-clause-no_more
returns-in_err-put_game-clause-no_more g c =
    begun _ _ _ _ c.args.filter.now c.loop-game.game c.get.result (omega arith) c.get.ensures.entry c.loop-game.invariant.lines c.put_game.ensures.no_more

pub loop-game-preserved : goal.loop-game-preserved
loop-game-preserved g c = record {
  lines = lines_put _ _ _ _ _ c.args.filter.now c.loop-game.game c.get.result (omega arith) c.get.ensures.entry c.loop-game.invariant.lines c.in_ok-put_game.ensures.put;
  none_lost = Grew-trans _ _ _ c.loop-game.invariant.none_lost c.put_game.ensures.none_lost;
  counts = omega (arith, c.loop-game.invariant.counts, c.put_game.ensures.counts);
}

pub returns-in_err-put_count-clause-no_more : goal.returns-in_err-put_count-clause-no_more
returns-in_err-put_count-clause-no_more g c = waiting _ _ _ c.args.filter.now c.loop-game.game c.loop-game.invariant.lines

-- What was taken and the last piece are the whole text.
whole_text : (g : given.Over) (c : goal.After-write_all g) → adds (g.K.Sink.taken c.loop-game.out) c.as_slice.result.now ≡ adds (g.K.Sink.taken c.args.out.now) (hits_text c.args.filter.now)
whole_text g c =
    let end : length c.args.filter.now ≤ c.loop-game.game = omega arith in
    all_put _ _ _ _ c.args.filter.now c.loop-game.game _ _ end c.count.ensures.count c.len.ensures.len c.loop-game.invariant.lines (c.as_slice.ensures.value ∙ c.in_ok-put_count.ensures)

pub returns-clause-written : goal.returns-clause-written
returns-clause-written g c =
    let P : Option (List ℕ) → Type 0 = λ t. OnOk c.write_all.result (g.K.Sink.taken c.write_all.new.sink ≡ t) in
    subst P (whole_text g c) c.write_all.ensures.added

pub returns-clause-none_lost : goal.returns-clause-none_lost
returns-clause-none_lost g c = Grew-trans _ _ _ c.loop-game.invariant.none_lost c.write_all.ensures.none_lost

pub returns-clause-no_more : goal.returns-clause-no_more
returns-clause-no_more g c =
    let P : Option (List ℕ) → Type 0 = λ t. Grew (g.K.Sink.taken c.write_all.new.sink) t in
    subst P (whole_text g c) c.write_all.ensures.no_more
