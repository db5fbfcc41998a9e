use Rattle.std.proofs.Common.{rules, sym, ◌∙◌, ap, List}
use Rattle.std.specs.Prelude.{slice_set}
use Rattle.std.proofs.lemmas.List.Edits.{map_over_more}
use Rattle.pos_index.specs.declared.hit.Hit.{Hit}
use Rattle.pos_index.specs.Keeping.{moved}
use Rattle.pos_index.proofs.lists.renumber_lists.Goals as goal

pub loop-k-preserved : goal.loop-k-preserved
loop-k-preserved c =
    ap (λ (list : List Hit). slice_set c.loop-k.lists c.loop-k.k list) (c.renumber.ensures ∙ ap (moved c.args.to.now) (sym c.index-lists-k.is))
    ∙ map_over_more (moved c.args.to.now) c.args.lists.now c.loop-k.lists c.loop-k.k c.index-lists-k.result (search rules) c.loop-k.invariant c.index-lists-k.is
