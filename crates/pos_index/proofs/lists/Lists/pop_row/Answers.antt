use Rattle.std.proofs.Common.{rules, ◌∙◌, ap}
use Rattle.pos_index.specs.Keeping.{Listed}
use Rattle.pos_index.proofs.SeenLemmas.{pop_kept, with_rows}
use Rattle.pos_index.proofs.lists.Lists.pop_row.Goals as goal

pub invariant_of-self : goal.invariant_of-self
invariant_of-self c =
    (pop_kept c.self.inside.lists.items c.self.inside.rows.items c.self.invariant c.requires.front c.pop.new.self.items
    (ap (λ (l : Listed). l.rows) c.self.view_is ∙ c.requires.ends) (search rules)).listed

pub returns : goal.returns
returns c = λ rows is.
    let kept = pop_kept c.self.inside.lists.items c.self.inside.rows.items c.self.invariant rows c.pop.new.self.items (ap (λ (l : Listed). l.rows) c.self.view_is ∙ is) (search rules) in
    with_rows _ _ rows c.args.self.now kept.are (ap (λ (l : Listed). l.boards) c.self.view_is)
