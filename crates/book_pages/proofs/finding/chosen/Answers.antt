use Rattle.std.proofs.Common.{◌≡◌, List, arith, ap, get_or, take, ◌∙◌}
use Rattle.std.proofs.lemmas.Bool.{le-leb, lt-leb}
use Rattle.book_pages.specs.Meeting.{HowMany, how_many}
use Rattle.book_pages.proofs.MeetLemmas.{there}
use Rattle.book_pages.proofs.ReachLemmas.{chosen_no, chosen_of, chosen_yes, games_on}
use Rattle.book_pages.proofs.finding.chosen.Goals as goal
use Rattle.book_pages.proofs.finding.chosen.Goals.{then-from-least+in_ok-add_board, else-from-least}

pub loop-number-preserved : goal.loop-number-preserved
loop-number-preserved c =
    let boards = c.args.counts.now.boards.keys in
    let met = c.args.counts.now.met.items in
    let start = c.args.reach.now.start in
    let least = c.raised-least.result in
    let n = c.loop-number.number in
    let item : c.index-met-number.result ≡ get_or met n c.index-met-number.result =
    c.index-met-number.is ∙ ap (λ (l : List HowMany). get_or l n c.index-met-number.result) c.met-in-loop-number.ensures.met in
    elim c.if-from-least.branch [
      | then-from-least+in_ok-add_board w ↦
          let games = games_on boards met n w.board.result.now c.index-met-number.result c.requires.distinct c.requires.count w.board.ensures.board item in
          (λ j. (w.boards-is j).keys) ∙ w.in_ok-add_board.ensures.added (chosen_of start boards met least n) c.loop-number.invariant
          ∙ ap (take 20000)
          (chosen_yes start boards met least n w.board.result.now w.board.ensures.board
          (le-leb least (how_many boards met w.board.result.now).games (omega (arith, games, c.games.ensures.games, c.from.ensures, w.if-from-least.true))))
      | else-from-least w ↦
          let at = there boards n (let len = c.len-number-end.ensures.len in omega (arith, len, c.loop-number-test.true)) in
          let games = games_on boards met n at.0 c.index-met-number.result c.requires.distinct c.requires.count at.1 item in
          (λ j. (w.boards-is j).keys) ∙ c.loop-number.invariant
          ∙ ap (take 20000)
          (chosen_no start boards met least n at.0 at.1
          (lt-leb least (how_many boards met at.0).games (omega (arith, games, c.games.ensures.games, c.from.ensures, w.if-from-least.false))))
    ]
