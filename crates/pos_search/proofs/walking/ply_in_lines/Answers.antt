use Rattle.pos_search.proofs.SearchLemmas.{ply_is}
use Rattle.pos_search.proofs.walking.ply_in_lines.Goals as goal

pub returns-in-Ok-clause-first : goal.returns-in-Ok-clause-first
returns-in-Ok-clause-first c = λ tags game is. ply_is c.args.q.now game c.in-Ok.hit c.ply_of.result (c.in-Ok.ensures.first tags game is) c.ply_of.ensures
