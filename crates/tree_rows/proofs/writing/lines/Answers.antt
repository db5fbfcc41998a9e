use Rattle.std.proofs.Common.{◌++◌, ℕ, List, ap, ◌∙◌, flat_map}
use Rattle.std.specs.Prelude.{codes}
use Rattle.tree_rows.specs.MoveText.{IsKey}
use Rattle.tree_rows.specs.TreeText.{row_line, tree_text}
use Rattle.tree_rows.proofs.Placing.{all_in_order}
use Rattle.tree_rows.proofs.TextLaws.{line_of_sums}
use Rattle.tree_rows.proofs.writing.lines.Goals as goal

pub push_rows-requires : goal.push_rows-requires
push_rows-requires c = record {
  keys = all_in_order (λ row. IsKey c.args.board.now c.args.side row.key) c.args.rows.now c.as_slice.result.now
      (c.as_slice.ensures.value ∙ c.in_ok-sorted.ensures.order) c.requires.keys;
}

pub returns-clause-text : goal.returns-clause-text
unfolding tree_text
returns-clause-text c =
    let total = line_of_sums (codes "total") c.total.result c.args.rows.now c.total.ensures.sums in
    let sorted = c.as_slice.ensures.value ∙ c.in_ok-sorted.ensures.order in
    let front = c.in_ok-push_rows.ensures.lines
    ∙ (λ j. c.new-text.ensures.items j ++ flat_map (row_line c.args.board.now c.args.side) (sorted j)) in
    c.in_ok-extend_from_slice.ensures.items
    ∙ ap (λ (text : List ℕ). c.args.into.now.items ++ text)
    (c.as_slice-2.ensures.value ∙ c.in_ok-push_line.ensures.line ∙ (λ j. front j ++ total j))
