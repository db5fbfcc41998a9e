use Rattle.pos_search.proofs.WalkLemmas.{hit_here, legal_hit}
use Rattle.pos_search.proofs.walking.with_next.Goals as goal

pub returns-in-Ok-clause-first : goal.returns-in-Ok-clause-first
returns-in-Ok-clause-first c = λ tags game is.
    hit_here c.args.q.now game c.args.ply c.in-Ok.next (c.requires.first tags game is) (rw c.requires.met.at at (c.in-Ok.ensures.next tags game is))

pub returns-in-Ok-clause-legal : goal.returns-in-Ok-clause-legal
returns-in-Ok-clause-legal c =
    legal_hit c.args.q.now c.args.walk.now.position c.step.new.self.position c.args.ply c.in-Ok.next c.requires.met.sound c.requires.met.here
    (λ m is. (rw is at c.in-Ok.ensures.played).0)
