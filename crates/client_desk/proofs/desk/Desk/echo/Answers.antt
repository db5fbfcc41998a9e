use Rattle.std.proofs.Common.{List, sym, ap, subst, ◌∙◌}
use Rattle.std.specs.List.{AllPairs}
use Rattle.client_desk.specs.Seats.{Seated}
use Rattle.client_desk.specs.Desks.{Seating, Apart}
use Rattle.client_desk.proofs.desk.Desk.echo.Goals as goal

pub echo_to_others-requires-clause-apart : goal.echo_to_others-requires-clause-apart
echo_to_others-requires-clause-apart g c =
    subst (λ (seats : List Seated). AllPairs Apart seats) (sym (c.as_mut_slice.ensures.value ∙ ap (λ (s : Seating). s.seats) c.self.view_is)) c.requires.apart
