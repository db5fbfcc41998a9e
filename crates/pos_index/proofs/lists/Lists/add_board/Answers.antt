use Rattle.std.proofs.Common.{rules, subst, List}
use Rattle.pos_index.specs.declared.hit.Hit.{Hit}
use Rattle.pos_index.specs.Keeping.{AreListed, rows_seen}
use Rattle.pos_index.proofs.SeenLemmas.{board_kept, pushed_board}
use Rattle.pos_index.proofs.lists.Lists.add_board.Goals as goal

pub invariant_of-self-2 : goal.invariant_of-self-2
invariant_of-self-2 c =
    let boards = c.self.inside.rows.items in
    subst (λ (l : List (List Hit)). AreListed l (rows_seen l 0 boards)) (search rules) (board_kept c.self.inside.lists.items boards c.self.invariant).listed

pub returns-clause-added : goal.returns-clause-added
returns-clause-added c =
    pushed_board c.self.inside.lists.items c.push.new.self.items c.self.inside.rows.items c.args.self.now c.self.invariant (search rules) c.self.view_is
