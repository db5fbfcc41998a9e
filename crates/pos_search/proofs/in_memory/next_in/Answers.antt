use Rattle.std.proofs.Common.{◌∙◌, sym, ap}
use Rattle.cell_core.specs.Packed.{packed_of}
use Rattle.sig_index.specs.declared.pos_query.PosQuery.{PosQuery}
use Rattle.pos_search.specs.InMemory.{Seeks, next_of}
use Rattle.pos_search.proofs.InMemoryLemmas.{seeks_same}
use Rattle.pos_search.proofs.in_memory.next_in.Goals as goal

pub returns-clause-next : goal.returns-clause-next
returns-clause-next c query seeks =
    let own : Seeks c.new.result (packed_of c.args.board.now c.args.side) = record {
      exact = ap (λ (q : PosQuery). q.mode) c.new.ensures.query;
      squares = c.new.ensures.squares;
      board = sym (ap (λ (q : PosQuery). packed_of q.board q.side) c.new.ensures.query);
      main = ap (λ (q : PosQuery). q.vars) c.new.ensures.query;
    } in
    c.next_sought.ensures.next
    ∙ ap (λ (q : PosQuery). next_of q c.args.game.now) (seeks_same c.new.result query (packed_of c.args.board.now c.args.side) own seeks)
