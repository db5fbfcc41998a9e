use Rattle.std.proofs.Common.{◌∙◌, List, ap, arith}
use Rattle.tree_rows.specs.Rows.{rows_of}
use Rattle.tree_live.specs.Watching.{hits_in}
use Rattle.tree_live.specs.declared.entry.Entry.{Entry}
use Rattle.tree_live.specs.RowChanges.{keys_changed}
use Rattle.tree_live.proofs.GameLaws.{on-ok}
use Rattle.tree_live.proofs.RowChangeLaws.{shows-told, told-few}
use Rattle.tree_live.proofs.counting.Counting.show.Goals as goal

pub returns-clause-shown : goal.returns-clause-shown
returns-clause-shown g c =
    let summed = c.self.invariant.1.summed ∙ ap (λ (l : List Entry). rows_of (hits_in l)) c.self.view_is in
    on-ok c.tell.result
    (λ tells. shows-told c.as_slice-2.result.now (hits_in c.args.self.now) c.self.inside.table _ _
    (c.as_slice-2.ensures.value ∙ c.in_ok-keys.ensures.keys ∙ ap (keys_changed _) c.as_slice.ensures.rows) summed tells)
    c.tell.ensures.told

pub returns-clause-told : goal.returns-clause-told
returns-clause-told g c hits shows =
    let summed = c.self.invariant.1.summed ∙ ap (λ (l : List Entry). rows_of (hits_in l)) c.self.view_is in
    let few = told-few c.as_slice-2.result.now hits c.as_slice.result.now _ (rows_of (hits_in c.args.self.now))
    (c.as_slice-2.ensures.value ∙ c.in_ok-keys.ensures.keys) (c.as_slice.ensures.rows ∙ summed) c.keys_changed.ensures.once shows in
    omega (arith, few, c.tell.ensures.counts.few)
