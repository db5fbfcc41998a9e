use Rattle.std.proofs.Common.{All, List, sym, subst, ◌∙◌}
use Rattle.game_tree.specs.Head.{IsBounded, IsTag}
use Rattle.game_tree.specs.declared.head.Head.{Head}
use Rattle.game_tree.specs.declared.head.Tag.{Tag}
use Rattle.base_core.proofs.game.settled_head.Goals as goal

pub settle-requires : goal.settle-requires
settle-requires c =
    let tagged : All IsTag c.from_vec.result = subst (λ (ts : List Tag). All IsTag ts) (sym c.from_vec.ensures.same) c.requires.tags in
    subst (λ (h : Head). IsBounded h) (sym (c.in_ok-head.ensures.head ∙ c.fields_of.ensures.fields c.from_vec.result)) (c.fields_of.ensures.bounded c.from_vec.result tagged)
