-- Each kind has no more names than the header says, and no more than its limit.
use Rattle.std.proofs.Common.{◌≤◌, sym, subst}
use Rattle.name_base.specs.declared.header.Shape.{Shape}
use Rattle.name_base.proofs.reading.read_file.Goals as goal

pub from_sets-requires : goal.from_sets-requires
from_sets-requires c = record {
  players = c.in_ok-players.ensures.sound _ (subst (λ (s : Shape). s.count ≤ 1048576) (sym c.player_shape.ensures) c.in-Ok.ensures.counts.players);
  events = c.in_ok-events.ensures.sound _ (subst (λ (s : Shape). s.count ≤ 524288) (sym c.event_shape.ensures) c.in-Ok.ensures.counts.events);
  sites = c.in_ok-sites.ensures.sound _ (subst (λ (s : Shape). s.count ≤ 524288) (sym c.site_shape.ensures) c.in-Ok.ensures.counts.sites);
  rounds = c.in_ok-rounds.ensures.sound _ (subst (λ (s : Shape). s.count ≤ 262144) (sym c.round_shape.ensures) c.in-Ok.ensures.counts.rounds);
}
