use Rattle.std.proofs.Common.{◌≡◌, ◌-◌, Ok, Result, ap, length, arith, length-drop}
use Rattle.pgn_read.specs.Readers.{Window}
use Rattle.pgn_read.specs.Said.{said}
use Rattle.pgn_read.specs.declared.step.Step.{Step}
use Rattle.pgn_read.specs.declared.step.Step.TheVariants as step
use Rattle.pgn_read.specs.declared.step.Untaken.{Untaken}
use Rattle.pgn_read.proofs.ItemLaws.{token_some, rest_fits}
use Rattle.pgn_read.proofs.LegalLaws.{steps_legally}
use Rattle.pgn_read.proofs.reader.take_front.Goals as goal

step_of : (a b : Step) → ◌≡◌ {A = Result Step Untaken} (Ok a) (Ok b) → a ≡ b
step_of a b is = cc

pub overflow_sub-size : goal.overflow_sub-size
overflow_sub-size c = omega (arith, ap length c.lexed-found.ensures.rest, rest_fits c.unread-unread.result.now)

pub returns-then-passes-clause-shorter : goal.returns-then-passes-clause-shorter
returns-then-passes-clause-shorter c = λ is.
    let goes = rw (step_of c.in_ok-step.step step.GoesOn is) at c.in_ok-step.ensures.effect in
    let some = token_some c.unread-unread.result.now c.args.game.now c.take.new.self (said c.lexed-found.result.token) c.lexed-found.ensures.token goes in
    omega (
      arith,
      some,
      ap length c.lexed-found.ensures.rest,
      ap length c.unread-unread.ensures.unread,
      ap length c.pass.ensures.unread,
      ap (λ (w : Window). length w.unread) c.search_comment.ensures.same,
      length-drop (length c.unread-unread.result.now - length c.lexed-found.result.rest.now) c.search_comment.new.self.unread,
    )

pub returns-then-passes-clause-legal : goal.returns-then-passes-clause-legal
returns-then-passes-clause-legal c =
    steps_legally (said c.lexed-found.result.token) c.in_ok-step.step c.args.game.now c.take.new.self c.requires.legal
    c.in_ok-step.ensures.effect c.in_ok-step.ensures.well
