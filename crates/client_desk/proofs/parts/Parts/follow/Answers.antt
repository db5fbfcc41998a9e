use Rattle.std.proofs.Common.{ap, length, ◌∙◌}
use Rattle.client_desk.specs.Changes.{moving_of}
use Rattle.client_desk.specs.Seats.{Seated}
use Rattle.client_desk.proofs.SeatLaws.{few-after}
use Rattle.client_desk.proofs.parts.Parts.follow.Goals as goal

pub returns-clause-few : goal.returns-clause-few
returns-clause-few g c =
    few-after c.follow.result c.args.entry c.args.change.now c.args.self.now _ _ c.follow.new.filter c.requires.fits c.requires.seat.few
    (c.moved-moved.ensures.moved ∙ ap (moving_of c.args.change.now) (c.len-games.ensures.len ∙ ap (λ (s : Seated). length s.filter) c.self.view_is))
    (ap (λ (s : Seated). s.filter) c.self-2.view_is ∙ c.in_ok-show.ensures.filter) c.follow.ensures.filter c.follow.ensures.part
