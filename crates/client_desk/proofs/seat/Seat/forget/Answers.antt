use Rattle.std.proofs.Common.{sym, subst}
use Rattle.client_desk.specs.Seats.{IsSeat}
use Rattle.client_desk.proofs.SeatLaws.{seat-forgotten}
use Rattle.client_desk.proofs.seat.Seat.forget.Goals as goal

pub invariant_of-self : goal.invariant_of-self
invariant_of-self c =
    seat-forgotten _ _ _ _ c.args.name.now (subst (λ i. IsSeat i.parts) (sym c.self-inside.view_is) c.self.invariant)
    c.forget.ensures.saved c.forget.ensures.same_games
