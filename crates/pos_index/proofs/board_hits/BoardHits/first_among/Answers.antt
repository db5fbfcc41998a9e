use Rattle.std.proofs.Common.{rules, ℕ, Some, ap, sym, ◌∙◌}
use Rattle.std.specs.Prelude.{slice_index_or}
use Rattle.pos_index.specs.declared.hit.Hit.{Hit}
use Rattle.pos_index.proofs.StandingLemmas.{ends_there, other_there, own_there}
use Rattle.pos_index.proofs.board_hits.BoardHits.first_among.Goals as goal

pub returns-then-begin-self-clause-first : goal.returns-then-begin-self-clause-first
returns-then-begin-self-clause-first c = λ board rows all.
    ends_there board rows c.args.game c.begin_of-begin.result c.self.inside.hits.now c.begin_of-begin.ensures.first (search (rules, all)) (search rules)

pub returns-then-hit-game-clause-first : goal.returns-then-hit-game-clause-first
returns-then-hit-game-clause-first c = λ board rows all.
    other_there board rows c.args.game c.begin_of-begin.result c.self.inside.hits.now c.begin_of-begin.ensures.first (search (rules, all))
    c.index-self-begin.result (search rules) c.index-self-begin.is (search rules)

pub returns-clause-first : goal.returns-clause-first
returns-clause-first c = λ board rows all.
    ap (λ (n : ℕ). Some (n, (slice_index_or c.self.inside.hits.now c.begin_of-begin.result c.index-self-begin.result).next)) c.from.ensures
    ∙ ap (λ (h : Hit). Some (h.ply, h.next)) (sym c.index-self-begin.is)
    ∙ own_there board rows c.args.game c.begin_of-begin.result c.self.inside.hits.now c.begin_of-begin.ensures.first (search (rules, all))
    c.index-self-begin.result (search rules) c.index-self-begin.is (search rules)
