use Rattle.std.proofs.Common.{◌++◌, ℕ, List, ap, ◌∙◌}
use Rattle.cell_core.specs.Packed.{packed_of}
use Rattle.page_html.proofs.TableLemmas.{head_is}
use Rattle.page_html.proofs.moves.push_move.Goals as goal

pub returns : goal.returns
returns c = record {
  key = c.in_ok-push_linked.ensures.added
      ∙ ap (λ (text : List ℕ). c.args.out.now.items ++ text)
      (head_is c.args.here.now.book.now.boards c.args.here.now.board c.args.here.now.side c.args.mv.now c.needed-position.result c.play_san-text.new.p
      c.pack-board.result c.as_slice.result.now c.needed-position.ensures.position c.play_san-text.ensures.becomes
      (c.pack-board.ensures.packed ∙ (λ i. packed_of (c.board.ensures.board i) (c.side.ensures.side i)))
      (c.as_slice.ensures.value ∙ c.play_san-text.ensures.exact));
}
