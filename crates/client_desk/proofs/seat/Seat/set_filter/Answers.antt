use Rattle.std.proofs.Common.{length, sym, ap, subst, ◌∙◌}
use Rattle.client_desk.specs.Seats.{Seated, IsSeat}
use Rattle.client_desk.proofs.SeatLaws.{seat-refiltered, told-here}
use Rattle.client_desk.proofs.seat.Seat.set_filter.Goals as goal

pub invariant_of-self : goal.invariant_of-self
invariant_of-self g c =
    seat-refiltered _ _ _ _ _ (subst (λ i. IsSeat i.parts) (sym c.self-inside.view_is) c.self.invariant)
    (c.requires.same_games ∙ ap (λ (s : Seated). length s.filter) (sym c.self.view_is) ∙ ap (λ i. length i.parts.filter) (sym c.self-inside.view_is))
    c.in-Ok.ensures.watched c.filter_changed.ensures.slots.1

pub returns-in-Ok-clause-told : goal.returns-in-Ok-clause-told
returns-in-Ok-clause-told g c =
    told-here _ _ _ _ _ _ (ap (λ (s : Seated). s.slots) (sym c.self.view_is) ∙ ap (λ i. i.parts.slots) (sym c.self-inside.view_is))
    (subst (λ i. IsSeat i.parts) (sym c.self-inside.view_is) c.self.invariant).within c.filter_changed.ensures.told

pub returns-in-Err-clause-told : goal.returns-in-Err-clause-told
returns-in-Err-clause-told g c =
    told-here _ _ _ _ _ _ (ap (λ (s : Seated). s.slots) (sym c.self.view_is) ∙ ap (λ i. i.parts.slots) (sym c.self-inside.view_is))
    (subst (λ i. IsSeat i.parts) (sym c.self-inside.view_is) c.self.invariant).within c.filter_changed.ensures.told
