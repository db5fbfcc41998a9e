use Rattle.std.proofs.Common.{Result, Ok, Err, OnOk, sym, ap, ◌∙◌}
use Rattle.tree_rows.specs.Keeping.{added}
use Rattle.tree_rows.proofs.RowLaws.{room-of}
use Rattle.tree_rows.proofs.Adding.{added-rows}
use Rattle.tree_rows.proofs.Dropping.{any-order}
use Rattle.tree_rows.proofs.rows.Rows.add_hit.Goals as goal

on-ok : {A E P Q : Type 0} (r : Result A E) → (P → Q) → OnOk r P → OnOk r Q
on-ok (Ok x) f h = f h
on-ok (Err e) f h = h

pub add-requires : goal.add-requires
add-requires c = record {
  room = room-of c.args.self.now c.requires.few.hits c.requires.few.summed c.requires.few.few c.requires.few.ranges;
}

pub returns-clause-rows : goal.returns-clause-rows
returns-clause-rows c hits is =
    on-ok c.add.result (λ grows. grows ∙ ap (added c.args.hit.now) is ∙ added-rows hits c.args.hit.now) c.add.ensures.added

pub returns-clause-among : goal.returns-clause-among
returns-clause-among c =
    on-ok c.add.result (λ grows before behind is. grows ∙ ap (added c.args.hit.now) is ∙ sym (any-order before behind c.args.hit.now)) c.add.ensures.added
