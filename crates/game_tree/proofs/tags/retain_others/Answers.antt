use Rattle.std.proofs.Common.{rules}
use Rattle.std.specs.Prelude.{not}
use Rattle.std.proofs.lemmas.Fn.{filter_same}
use Rattle.game_tree.specs.TagList.{is_named}
use Rattle.game_tree.proofs.tags.retain_others.Goals as goal

pub returns-clause-items : goal.returns-clause-items
returns-clause-items c =
    let kept = filter_same _ (λ tag. not (is_named c.args.name.now tag)) _ (λ x b f' k. search rules) _ _ c.retain.ensures.filtered in
    search (rules, kept)
