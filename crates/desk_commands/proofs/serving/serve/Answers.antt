use Rattle.std.proofs.Common.{ap, subst, sym, ◌∙◌}
use Rattle.script_lines.specs.Clients.{Clients, has_ended}
use Rattle.desk_commands.specs.Standing.{DeskHolding, DeskSound}
use Rattle.script_lines.specs.Clients.{heard}
use Rattle.desk_commands.proofs.LineLaws.{heard_serves, still_ended}
use Rattle.desk_commands.proofs.OwnLaws.{number_of}
use Rattle.desk_commands.proofs.serving.serve.Goals as goal
use Rattle.desk_commands.specs.Standing.{seats_of}

pub returns-in-Ok-clause-serves : goal.returns-in-Ok-clause-serves
returns-in-Ok-clause-serves g c = λ d text st told right.
    let held' : DeskHolding = record { holding = c.desk.inside.machine; seats = seats_of c.desk.inside.seats.items; clients = c.hear.new.self } in
    heard_serves c.done.new.desk held' (g.F.Files.seen c.done.new.files) d c.args.line.now text _ _ (c.in-Ok.ensures.serves d text st told right)
    (ap (λ (h : DeskHolding). h.holding) c.desk.view_is) (ap (λ (h : DeskHolding). h.seats) c.desk.view_is)
    (c.hear.ensures.heard ∙ ap (λ (h : DeskHolding). heard h.clients c.args.line.now) c.desk.view_is)

pub returns-in-Ok-clause-sound : goal.returns-in-Ok-clause-sound
returns-in-Ok-clause-sound g c = subst (λ (h : DeskHolding). DeskSound h (g.F.Files.seen c.done.new.files)) (sym c.desk.view_is) c.in-Ok.ensures.sound

pub invariant_of-desk : goal.invariant_of-desk
invariant_of-desk g c = (
  c.desk.invariant.0 ∙ ap (λ (cl : Clients). number_of cl.tagged) (sym c.hear.ensures.heard),
  λ client speaks. c.desk.invariant.1 client (still_ended c.desk.inside.clients c.args.line.now client (ap (λ (cl : Clients). has_ended cl client) (sym c.hear.ensures.heard) ∙ speaks)),
)
