use Rattle.std.proofs.Common.{length, ap, ◌∙◌}
use Rattle.filter_seat.specs.Seats.{first_seat}
use Rattle.shell_state.specs.Stands.{Holding}
use Rattle.desk_commands.proofs.BeginLaws.{begins_free}
use Rattle.desk_commands.proofs.desk.free_machine.Goals as goal

pub returns-clause-kept : goal.returns-clause-kept
returns-clause-kept c = ap (λ (h : Holding). h.kept) c.change_seats.ensures.machine ∙ ap (λ (h : Holding). h.kept) c.in_ok-machine.ensures.holds

pub returns-clause-begins : goal.returns-clause-begins
returns-clause-begins c = begins_free c.args.base c.in_ok-machine.machine c.change_seats.new.machine (first_seat (length c.args.base.entries)) _ c.in_ok-machine.ensures.holds c.change_seats.ensures.machine c.in_ok-machine.ensures.begins
