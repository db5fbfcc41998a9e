use Rattle.std.proofs.Common.{sym, ◌∙◌}
use Rattle.game_search.proofs.SearchLemmas.{stays_out}
use Rattle.game_search.proofs.searching.join.Goals as goal

pub returns-else-is_some-2 : goal.returns-else-is_some-2
returns-else-is_some-2 c = record {
  joined = stays_out c.args.filter.now c.args.i c.args.old c.args.first c.requires.game (sym c.is_some.ensures ∙ c.if-is_some.false) (sym c.is_some-else-is_some.ensures ∙ c.if-is_some-2.false);
}
