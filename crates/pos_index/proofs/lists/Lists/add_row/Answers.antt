use Rattle.std.proofs.Common.{rules, subst, List, ℕ}
use Rattle.pos_index.specs.Keeping.{AreListed, rows_seen}
use Rattle.pos_index.proofs.SeenLemmas.{pushed_row, row_kept}
use Rattle.pos_index.proofs.lists.Lists.add_row.Goals as goal

pub invariant_of-self-2 : goal.invariant_of-self-2
invariant_of-self-2 c =
    let lists = c.self.inside.lists.items in
    subst (λ (l : List (List ℕ)). AreListed lists (rows_seen lists 0 l)) (search rules) (row_kept lists c.self.inside.rows.items c.self.invariant).listed

pub returns-clause-added : goal.returns-clause-added
returns-clause-added c =
    pushed_row c.self.inside.lists.items c.self.inside.rows.items c.push.new.self.items c.args.self.now c.self.invariant (search rules) c.self.view_is
