use Rattle.std.proofs.Common.{ℕ, List, ap, ◌++◌, ◌∙◌}
use Rattle.cell_core.specs.Packed.{men_of}
use Rattle.tree_rows.specs.TreeText.{tree_text}
use Rattle.view_commands.proofs.ReadLaws.{read_text}
use Rattle.view_commands.proofs.viewing.text_of.Goals as goal

pub returns : goal.returns
returns g c = record {
  text = λ hits keys shows.
      c.in_ok-lines.ensures.text ∙ ap (λ (l : List ℕ). l ++ tree_text c.unpack-board.result.0 c.unpack-board.result.1 c.as_slice.result.now) c.new-text.ensures.items ∙ read_text (men_of c.args.packed.now.cells) c.args.packed.now.side _ _ c.unpack-board.result.0 c.unpack-board.result.1 _ hits c.unpack-board.ensures.board c.unpack-board.ensures.side
      c.as_slice.ensures.value c.in_ok-shown.ensures.rows c.in_ok-shown.ensures.once keys shows;
}
