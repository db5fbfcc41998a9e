use Rattle.std.proofs.Common.{◌∙◌, ap, sym}
use Rattle.pos_index.specs.Keeping.{Listed, boards_of}
use Rattle.pos_index.proofs.SeenLemmas.{boards_seen}
use Rattle.pos_index.proofs.lists.Lists.rows.Goals as goal

pub returns : goal.returns
returns c =
    c.as_slice.ensures.value ∙ sym (boards_seen c.self.inside.lists.items 0 c.self.inside.rows.items) ∙ ap (λ (l : Listed). boards_of l.rows) c.self.view_is
