use Rattle.game_tree.proofs.TagEditLemmas.{edited-IsBounded}
use Rattle.game_tree.proofs.tag_edit.apply.Goals as goal

pub returns-clause-bounds : goal.returns-clause-bounds
returns-clause-bounds c =
    rw c.in_ok-change.ensures.ok (edited-IsBounded c.args.head.now c.args.edit.now c.requires.head c.requires.edit)
