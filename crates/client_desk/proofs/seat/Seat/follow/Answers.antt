use Rattle.std.proofs.Common.{sym, subst}
use Rattle.client_desk.specs.Seats.{Seated}
use Rattle.client_desk.specs.Changes.{Fits}
use Rattle.client_desk.proofs.SeatLaws.{seat-followed, told-follow}
use Rattle.client_desk.proofs.seat.Seat.follow.Goals as goal

pub invariant_of-self : goal.invariant_of-self
invariant_of-self g c =
    seat-followed c.args.entry c.args.change.now c.self.inside.parts _ c.self.invariant
    (subst (λ (s : Seated). Fits c.args.change.now s) (sym c.self.view_is) c.requires.fits) c.follow.ensures.few c.in-Ok.ensures.follows

pub returns-in-Ok-clause-told : goal.returns-in-Ok-clause-told
returns-in-Ok-clause-told g c =
    told-follow _ c.args.entry c.args.change.now c.args.self.now c.self.inside.parts _ _ c.self.view_is c.self.invariant c.follow.ensures.told

pub returns-in-Err-clause-told : goal.returns-in-Err-clause-told
returns-in-Err-clause-told g c =
    told-follow _ c.args.entry c.args.change.now c.args.self.now c.self.inside.parts _ _ c.self.view_is c.self.invariant c.follow.ensures.told
