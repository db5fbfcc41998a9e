use Rattle.std.proofs.Common.{rules, ◌∙◌}
use Rattle.std.specs.Prelude.{slice_index_or}
use Rattle.std.proofs.lemmas.List.{get_or_default}
use Rattle.pos_index.proofs.SeenLemmas.{times_here, times_there}
use Rattle.pos_index.proofs.lists.times.Goals as goal
use Rattle.pos_index.proofs.lists.times.Goals.{then-boards-k, else-boards-k}

pub loop-k-preserved : goal.loop-k-preserved
loop-k-preserved c =
    let boards = c.args.boards.now in
    let other = slice_index_or boards c.loop-k.k 0 in
    let is = get_or_default boards c.loop-k.k 0 other c.loop-k-test.true in
    elim c.if-boards-k.branch [
      | then-boards-k w ↦ record {
        times = w.found-is ∙ times_here c.args.board c.loop-k.k c.loop-k.found boards other c.loop-k-test.true is (search rules) c.loop-k.invariant.times;
        few = search rules;
      }
      | else-boards-k w ↦ record {
        times = w.found-is ∙ times_there c.args.board c.loop-k.k c.loop-k.found boards other c.loop-k-test.true is (search rules) c.loop-k.invariant.times;
        few = search rules;
      }
    ]
