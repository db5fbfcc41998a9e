use Rattle.std.proofs.Common.{◌≡◌, ◌<◌, ◌∙◌, ap, arith, get_or, length, set, subst, sym, take, List, ℕ, []}
use Rattle.std.proofs.lemmas.List.{get_or_default, length-set}
use Rattle.pos_index.specs.Keeping.{AreListed, Listed, next_set, row_in, rows_seen, spot_in, times, with_row}
use Rattle.pos_index.proofs.SeenLemmas.{game_there, next_kept, row_length, spot_board, spot_known, with_rows}
use Rattle.pos_index.proofs.lists.Lists.set_next.Goals as goal

pub index-requires : goal.index-requires
index-requires c =
    omega (arith, game_there c.self.inside.lists.items c.self.inside.rows.items c.args.self.now c.self.invariant c.self.view_is c.args.i c.requires.game)

pub offset_bounds-boards-k : goal.offset_bounds-boards-k
offset_bounds-boards-k c =
    let lists = c.self.inside.lists.items in
    let boards = c.self.inside.rows.items in
    let there = game_there lists boards c.args.self.now c.self.invariant c.self.view_is c.args.i c.requires.game in
    let on : c.boards-boards.result.now ≡ get_or boards c.args.i [] = c.boards-boards.ensures ∙ c.index.ensures ∙ get_or_default boards c.args.i c.index.result.now [] there in
    let within : c.args.k < length (get_or boards c.args.i []) =
    omega (arith, c.requires.spot, row_length lists boards c.args.self.now c.self.invariant c.self.view_is c.args.i c.requires.game) in
    omega (arith, within, ap length on, c.boards-boards.type_inv.1)

pub bounds-boards-k : goal.bounds-boards-k
bounds-boards-k c =
    let lists = c.self.inside.lists.items in
    let boards = c.self.inside.rows.items in
    let there = game_there lists boards c.args.self.now c.self.invariant c.self.view_is c.args.i c.requires.game in
    let on : c.boards-boards.result.now ≡ get_or boards c.args.i [] = c.boards-boards.ensures ∙ c.index.ensures ∙ get_or_default boards c.args.i c.index.result.now [] there in
    let within : c.args.k < length (get_or boards c.args.i []) =
    omega (arith, c.requires.spot, row_length lists boards c.args.self.now c.self.invariant c.self.view_is c.args.i c.requires.game) in
    omega (arith, within, ap length on)

pub split_at-requires : goal.split_at-requires
split_at-requires c =
    let lists = c.self.inside.lists.items in
    let boards = c.self.inside.rows.items in
    let there = game_there lists boards c.args.self.now c.self.invariant c.self.view_is c.args.i c.requires.game in
    let on : c.boards-boards.result.now ≡ get_or boards c.args.i [] = c.boards-boards.ensures ∙ c.index.ensures ∙ get_or_default boards c.args.i c.index.result.now [] there in
    let within : c.args.k < length (get_or boards c.args.i []) =
    omega (arith, c.requires.spot, row_length lists boards c.args.self.now c.self.invariant c.self.view_is c.args.i c.requires.game) in
    omega (arith, within, ap length on)

pub index_mut-requires : goal.index_mut-requires
index_mut-requires c =
    let lists = c.self.inside.lists.items in
    let boards = c.self.inside.rows.items in
    let there = game_there lists boards c.args.self.now c.self.invariant c.self.view_is c.args.i c.requires.game in
    let on : c.boards-boards.result.now ≡ get_or boards c.args.i [] = c.boards-boards.ensures ∙ c.index.ensures ∙ get_or_default boards c.args.i c.index.result.now [] there in
    let within : c.args.k < length (get_or boards c.args.i []) =
    omega (arith, c.requires.spot, row_length lists boards c.args.self.now c.self.invariant c.self.view_is c.args.i c.requires.game) in
    let board : get_or c.boards-boards.result.now c.args.k 0 ≡ (spot_in (row_in (rows_seen lists 0 boards) c.args.i) c.args.k).board =
    ap (λ (l : List ℕ). get_or l c.args.k 0) on ∙ spot_board lists boards c.self.invariant c.args.i there c.args.k within 0 in
    omega (arith, board, spot_known lists boards c.self.invariant c.args.i there c.args.k within)

pub invariant_of-self : goal.invariant_of-self
invariant_of-self c =
    let lists = c.self.inside.lists.items in
    let boards = c.self.inside.rows.items in
    let there = game_there lists boards c.args.self.now c.self.invariant c.self.view_is c.args.i c.requires.game in
    let on : c.boards-boards.result.now ≡ get_or boards c.args.i [] = c.boards-boards.ensures ∙ c.index.ensures ∙ get_or_default boards c.args.i c.index.result.now [] there in
    let within : c.args.k < length (get_or boards c.args.i []) =
    omega (arith, c.requires.spot, row_length lists boards c.args.self.now c.self.invariant c.self.view_is c.args.i c.requires.game) in
    let board : get_or c.boards-boards.result.now c.args.k 0 ≡ (spot_in (row_in (rows_seen lists 0 boards) c.args.i) c.args.k).board =
    ap (λ (l : List ℕ). get_or l c.args.k 0) on ∙ spot_board lists boards c.self.invariant c.args.i there c.args.k within 0 in
    let spot = spot_in (row_in (rows_seen lists 0 boards) c.args.i) c.args.k in
    let hits : c.index_mut.result.now ≡ get_or lists spot.board [] =
    c.index_mut.ensures.value ∙ ap (λ (b : ℕ). get_or lists b c.index_mut.result.now) board
    ∙ get_or_default lists spot.board c.index_mut.result.now [] (spot_known lists boards c.self.invariant c.args.i there c.args.k within) in
    let rank : c.times-before.result ≡ times spot.board (take c.args.k (get_or boards c.args.i [])) =
    c.times-before.ensures.times ∙ (λ j. times (board j) ((c.split_at.ensures.front ∙ ap (take c.args.k) on) j)) in
    let kept =
    next_kept lists boards c.self.invariant c.args.i there c.args.k within c.args.next.now c.set_next.new.self
    (λ front others back hit same below above many. c.set_next.ensures front others back hit (hits ∙ same) below above (rank ∙ many)) in
    subst (λ (b : ℕ). AreListed (set lists b c.set_next.new.self) (rows_seen (set lists b c.set_next.new.self) 0 boards)) (sym board) kept.listed

pub returns : goal.returns
returns c =
    let lists = c.self.inside.lists.items in
    let boards = c.self.inside.rows.items in
    let there = game_there lists boards c.args.self.now c.self.invariant c.self.view_is c.args.i c.requires.game in
    let on : c.boards-boards.result.now ≡ get_or boards c.args.i [] = c.boards-boards.ensures ∙ c.index.ensures ∙ get_or_default boards c.args.i c.index.result.now [] there in
    let within : c.args.k < length (get_or boards c.args.i []) =
    omega (arith, c.requires.spot, row_length lists boards c.args.self.now c.self.invariant c.self.view_is c.args.i c.requires.game) in
    let board : get_or c.boards-boards.result.now c.args.k 0 ≡ (spot_in (row_in (rows_seen lists 0 boards) c.args.i) c.args.k).board =
    ap (λ (l : List ℕ). get_or l c.args.k 0) on ∙ spot_board lists boards c.self.invariant c.args.i there c.args.k within 0 in
    let spot = spot_in (row_in (rows_seen lists 0 boards) c.args.i) c.args.k in
    let hits : c.index_mut.result.now ≡ get_or lists spot.board [] =
    c.index_mut.ensures.value ∙ ap (λ (b : ℕ). get_or lists b c.index_mut.result.now) board
    ∙ get_or_default lists spot.board c.index_mut.result.now [] (spot_known lists boards c.self.invariant c.args.i there c.args.k within) in
    let rank : c.times-before.result ≡ times spot.board (take c.args.k (get_or boards c.args.i [])) =
    c.times-before.ensures.times ∙ (λ j. times (board j) ((c.split_at.ensures.front ∙ ap (take c.args.k) on) j)) in
    let kept =
    next_kept lists boards c.self.invariant c.args.i there c.args.k within c.args.next.now c.set_next.new.self
    (λ front others back hit same below above many. c.set_next.ensures front others back hit (hits ∙ same) below above (rank ∙ many)) in
    with_rows _ _ _ c.args.self.now
    (ap (λ (b : ℕ). rows_seen (set lists b c.set_next.new.self) 0 boards) board ∙ kept.are
    ∙ ap (λ (l : Listed). with_row l.rows c.args.i (set (row_in l.rows c.args.i) c.args.k (next_set c.args.next.now (spot_in (row_in l.rows c.args.i) c.args.k)))) c.self.view_is)
    (length-set lists (get_or c.boards-boards.result.now c.args.k 0) c.set_next.new.self ∙ ap (λ (l : Listed). l.boards) c.self.view_is)
