use Rattle.pos_search.proofs.walking.ply_on_main.Goals as goal

pub returns-clause-first : goal.returns-clause-first
returns-clause-first c = rw c.in_ok-walk.ensures.bytes at c.walk_to.ensures.first
