use Rattle.std.proofs.Common.{◌∙◌, List, length, sym, ap}
use Rattle.tree_live.specs.declared.marks.Marks.TheVariants.{Numbers}
use Rattle.tree_live.specs.declared.entry.Entry.{Entry}
use Rattle.tree_live.proofs.GameLaws.{length-marks, renumbered-out, renumbered-games}
use Rattle.tree_live.proofs.counting.Counting.renumber.Goals as goal

pub move_games-requires-clause-same_games : goal.move_games-requires-clause-same_games
move_games-requires-clause-same_games c =
    c.requires.same_games
    ∙ sym (ap (λ (l : List Entry). length l) c.in_ok-take_numbers.ensures.games ∙ length-marks Numbers c.to.result.now c.args.self.now)

pub move_games-requires-clause-out : goal.move_games-requires-clause-out
move_games-requires-clause-out c =
    renumbered-out c.to.result.now c.args.renumbering.now.to c.args.self.now c.take_numbers.new.self c.to.ensures.to
    c.in_ok-take_numbers.ensures.games c.requires.same_games

pub returns : goal.returns
returns c = record {
  games = c.move_games.ensures.games
      ∙ renumbered-games c.to.result.now c.args.renumbering.now.to c.args.self.now c.take_numbers.new.self c.to.ensures.to c.in_ok-take_numbers.ensures.games;
}
