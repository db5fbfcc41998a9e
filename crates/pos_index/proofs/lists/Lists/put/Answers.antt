use Rattle.std.proofs.Common.{rules, ◌<◌, ◌++◌, ◌∷◌, ◌∙◌, ap, arith, length, List, [], ℕ}
use Rattle.std.proofs.lemmas.List.{get_or_default, length-set}
use Rattle.pos_index.specs.Keeping.{Listed, row_in, rows_seen, with_row}
use Rattle.pos_index.proofs.SeenLemmas.{length-seen, put_kept, with_rows}
use Rattle.pos_index.proofs.lists.Lists.put.Goals as goal

pub index_mut-requires : goal.index_mut-requires
index_mut-requires c =
    let lists = c.self.inside.lists.items in
    let boards = c.self.inside.rows.items in
    let game : c.args.i < length (rows_seen lists 0 boards) = search rules in
    omega (arith, game, length-seen lists 0 boards)

pub invariant_of-self-2 : goal.invariant_of-self-2
invariant_of-self-2 c =
    let lists = c.self.inside.lists.items in
    let boards = c.self.inside.rows.items in
    let game : c.args.i < length (rows_seen lists 0 boards) = search rules in
    let there : c.args.i < length boards = omega (arith, game, length-seen lists 0 boards) in
    (put_kept lists boards c.self.invariant c.args.i there c.args.spot.now c.put_in.new.row c.put_in.new.hits (search rules)
    (c.in_ok-put_in.ensures.row ∙ ap (λ (r : List ℕ). r ++ c.args.spot.now.board ∷ []) (c.index_mut.ensures.value ∙ get_or_default boards c.args.i c.index_mut.result.now [] there))
    (λ front back same. c.in_ok-put_in.ensures.put front back (c.index_mut-2.ensures.value ∙ get_or_default lists c.args.spot.now.board c.index_mut-2.result.now [] (search rules) ∙ same))).listed

pub returns-clause-put : goal.returns-clause-put
returns-clause-put c =
    let lists = c.self.inside.lists.items in
    let boards = c.self.inside.rows.items in
    let game : c.args.i < length (rows_seen lists 0 boards) = search rules in
    let there : c.args.i < length boards = omega (arith, game, length-seen lists 0 boards) in
    let kept =
    put_kept lists boards c.self.invariant c.args.i there c.args.spot.now c.put_in.new.row c.put_in.new.hits (search rules)
    (c.in_ok-put_in.ensures.row ∙ ap (λ (r : List ℕ). r ++ c.args.spot.now.board ∷ []) (c.index_mut.ensures.value ∙ get_or_default boards c.args.i c.index_mut.result.now [] there))
    (λ front back same. c.in_ok-put_in.ensures.put front back (c.index_mut-2.ensures.value ∙ get_or_default lists c.args.spot.now.board c.index_mut-2.result.now [] (search rules) ∙ same)) in
    with_rows _ _ _ c.args.self.now (kept.are ∙ ap (λ (l : Listed). with_row l.rows c.args.i (row_in l.rows c.args.i ++ c.args.spot.now ∷ [])) c.self.view_is)
    (length-set lists c.args.spot.now.board c.put_in.new.hits ∙ ap (λ (l : Listed). l.boards) c.self.view_is)
