use Rattle.std.proofs.Common.{◌∙◌, sym}
use Rattle.head_search.proofs.SearchLemmas.{first_is}
use Rattle.head_search.proofs.searching.first_ply.Goals as goal

pub returns-then-is_asked : goal.returns-then-is_asked
returns-then-is_asked g c = record {
  first = first_is c.args.q.now (g.G.Games.heads c.args.games.now) (g.G.Games.sigs c.args.games.now) c.args.i c.is_asked.result _
      (c.len-count.ensures.one_head_each ∙ sym c.len-count.ensures.one_sig_each) c.requires.game c.is_asked.ensures.asked c.if-is_asked.true;
}

pub returns-else-is_asked : goal.returns-else-is_asked
returns-else-is_asked g c = record {
  first = first_is c.args.q.now (g.G.Games.heads c.args.games.now) (g.G.Games.sigs c.args.games.now) c.args.i c.is_asked.result _
      (c.len-count.ensures.one_head_each ∙ sym c.len-count.ensures.one_sig_each) c.requires.game c.is_asked.ensures.asked c.if-is_asked.false;
}
