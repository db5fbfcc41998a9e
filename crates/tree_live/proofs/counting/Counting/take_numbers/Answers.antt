use Rattle.std.proofs.Common.{List, length, take, ap, arith}
use Rattle.tree_live.specs.declared.entry.Entry.{Entry}
use Rattle.tree_live.specs.declared.marks.Marks.TheVariants.{Numbers}
use Rattle.tree_live.proofs.GameLaws.{length-marks, marks-more}
use Rattle.tree_live.proofs.counting.Counting.take_numbers.Goals as goal

pub mark-requires : goal.mark-requires
mark-requires c =
    let size = ap (λ (l : List Entry). length l) c.loop-i.invariant in
    let all = length-marks Numbers (take c.loop-i.i c.args.to.now) c.args.self.now in
    record { game = omega (arith, size, all, c.requires.same_games) }

pub loop-i-preserved : goal.loop-i-preserved
loop-i-preserved c =
    marks-more Numbers c.args.to.now c.args.self.now c.loop-i.self c.mark.new.self c.loop-i.i (omega arith) c.requires.same_games c.loop-i.invariant
    c.in_ok-mark.ensures.games
