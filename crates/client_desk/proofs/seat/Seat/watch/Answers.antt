use Rattle.std.proofs.Common.{length, refl, sym, ap, subst, ◌∙◌}
use Rattle.client_desk.specs.Seats.{Seated, IsSeat}
use Rattle.client_desk.proofs.SeatLaws.{seat-watched-or, slot-below}
use Rattle.client_desk.proofs.seat.Seat.watch.Goals as goal

pub invariant_of-self : goal.invariant_of-self
invariant_of-self g c =
    seat-watched-or c.watch.result _ _ _ _ c.as_slice.result.now c.args.k _ (subst (λ i. IsSeat i.parts) (sym c.self-inside.view_is) c.self.invariant)
    (slot-below c.args.k _ _ (sym c.holds.ensures.holds ∙ c.if-not-holds.false))
    (ap length c.as_slice.ensures.value ∙ c.requires.same_games ∙ ap (λ (s : Seated). length s.filter) (sym c.self.view_is) ∙ ap (λ i. length i.parts.filter) (sym c.self-inside.view_is)) refl
    c.watch.ensures.watched c.watch.ensures.unchanged
