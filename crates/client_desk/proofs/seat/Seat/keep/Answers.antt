use Rattle.std.proofs.Common.{sym, subst}
use Rattle.client_desk.specs.Seats.{IsSeat}
use Rattle.client_desk.proofs.SeatLaws.{seat-kept-or}
use Rattle.client_desk.proofs.seat.Seat.keep.Goals as goal

pub invariant_of-self : goal.invariant_of-self
invariant_of-self c =
    seat-kept-or c.keep.result _ _ _ _ c.args.name.now (subst (λ i. IsSeat i.parts) (sym c.self-inside.view_is) c.self.invariant)
    c.keep.ensures.saved c.keep.ensures.same_games c.keep.ensures.unchanged
