-- The greatest of numbers below 2 ^ 24 is below it.
use Rattle.std.proofs.Common.{◌<◌, ◌^◌, sym, subst}
use Rattle.name_base.proofs.TextLemmas.{greatest_small}
use Rattle.name_base.proofs.writing.header_of.Goals as goal

pub returns-clause-greatest : goal.returns-clause-greatest
returns-clause-greatest c = record {
  players = subst (λ n. n < 2 ^ 24) (sym c.greatest_of.ensures.greatest) (greatest_small c.args.players.now c.requires.players.small);
  events = subst (λ n. n < 2 ^ 24) (sym c.greatest_of-2.ensures.greatest) (greatest_small c.args.events.now c.requires.events.small);
  sites = subst (λ n. n < 2 ^ 24) (sym c.greatest_of-3.ensures.greatest) (greatest_small c.args.sites.now c.requires.sites.small);
  rounds = subst (λ n. n < 2 ^ 24) (sym c.greatest_of-4.ensures.greatest) (greatest_small c.args.rounds.now c.requires.rounds.small);
}
