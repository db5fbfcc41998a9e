use Rattle.std.proofs.Common.{◌≡◌, ◌<◌, ◌∙◌, ap, arith, get_or, length, subst, sym, take, List, ℕ, []}
use Rattle.std.proofs.lemmas.List.{get_or_default}
use Rattle.pos_index.specs.declared.hit.Hit.{Hit}
use Rattle.pos_index.specs.Keeping.{IsApart, Listed, hit_in, own_hits, row_in, rows_seen, spot_in, spot_of, times}
use Rattle.pos_index.proofs.SeenLemmas.{game_there, row_length, spot_apart, spot_board, spot_hit, spot_known, spot_rank}
use Rattle.pos_index.proofs.lists.Lists.spot.Goals as goal

pub index-requires : goal.index-requires
index-requires c =
    omega (arith, game_there c.self.inside.lists.items c.self.inside.rows.items c.args.self.now c.self.invariant c.self.view_is c.args.i c.requires.game)

pub offset_bounds-boards-k : goal.offset_bounds-boards-k
offset_bounds-boards-k c =
    let lists = c.self.inside.lists.items in
    let boards = c.self.inside.rows.items in
    let there = game_there lists boards c.args.self.now c.self.invariant c.self.view_is c.args.i c.requires.game in
    let on : c.boards-boards.result.now ≡ get_or boards c.args.i [] = c.boards-boards.ensures ∙ c.index.ensures ∙ get_or_default boards c.args.i c.index.result.now [] there in
    let within : c.args.k < length (get_or boards c.args.i []) =
    omega (arith, c.requires.spot, row_length lists boards c.args.self.now c.self.invariant c.self.view_is c.args.i c.requires.game) in
    omega (arith, within, ap length on, c.boards-boards.type_inv.1)

pub bounds-boards-k : goal.bounds-boards-k
bounds-boards-k c =
    let lists = c.self.inside.lists.items in
    let boards = c.self.inside.rows.items in
    let there = game_there lists boards c.args.self.now c.self.invariant c.self.view_is c.args.i c.requires.game in
    let on : c.boards-boards.result.now ≡ get_or boards c.args.i [] = c.boards-boards.ensures ∙ c.index.ensures ∙ get_or_default boards c.args.i c.index.result.now [] there in
    let within : c.args.k < length (get_or boards c.args.i []) =
    omega (arith, c.requires.spot, row_length lists boards c.args.self.now c.self.invariant c.self.view_is c.args.i c.requires.game) in
    omega (arith, within, ap length on)

pub split_at-requires : goal.split_at-requires
split_at-requires c =
    let lists = c.self.inside.lists.items in
    let boards = c.self.inside.rows.items in
    let there = game_there lists boards c.args.self.now c.self.invariant c.self.view_is c.args.i c.requires.game in
    let on : c.boards-boards.result.now ≡ get_or boards c.args.i [] = c.boards-boards.ensures ∙ c.index.ensures ∙ get_or_default boards c.args.i c.index.result.now [] there in
    let within : c.args.k < length (get_or boards c.args.i []) =
    omega (arith, c.requires.spot, row_length lists boards c.args.self.now c.self.invariant c.self.view_is c.args.i c.requires.game) in
    omega (arith, within, ap length on)

pub index-requires-2 : goal.index-requires-2
index-requires-2 c =
    let lists = c.self.inside.lists.items in
    let boards = c.self.inside.rows.items in
    let there = game_there lists boards c.args.self.now c.self.invariant c.self.view_is c.args.i c.requires.game in
    let on : c.boards-boards.result.now ≡ get_or boards c.args.i [] = c.boards-boards.ensures ∙ c.index.ensures ∙ get_or_default boards c.args.i c.index.result.now [] there in
    let within : c.args.k < length (get_or boards c.args.i []) =
    omega (arith, c.requires.spot, row_length lists boards c.args.self.now c.self.invariant c.self.view_is c.args.i c.requires.game) in
    let board : get_or c.boards-boards.result.now c.args.k 0 ≡ (spot_in (row_in (rows_seen lists 0 boards) c.args.i) c.args.k).board =
    ap (λ (l : List ℕ). get_or l c.args.k 0) on ∙ spot_board lists boards c.self.invariant c.args.i there c.args.k within 0 in
    omega (arith, board, spot_known lists boards c.self.invariant c.args.i there c.args.k within)

pub hit-hit-requires-clause-apart : goal.hit-hit-requires-clause-apart
hit-hit-requires-clause-apart c =
    let lists = c.self.inside.lists.items in
    let boards = c.self.inside.rows.items in
    let there = game_there lists boards c.args.self.now c.self.invariant c.self.view_is c.args.i c.requires.game in
    let on : c.boards-boards.result.now ≡ get_or boards c.args.i [] = c.boards-boards.ensures ∙ c.index.ensures ∙ get_or_default boards c.args.i c.index.result.now [] there in
    let within : c.args.k < length (get_or boards c.args.i []) =
    omega (arith, c.requires.spot, row_length lists boards c.args.self.now c.self.invariant c.self.view_is c.args.i c.requires.game) in
    let board : get_or c.boards-boards.result.now c.args.k 0 ≡ (spot_in (row_in (rows_seen lists 0 boards) c.args.i) c.args.k).board =
    ap (λ (l : List ℕ). get_or l c.args.k 0) on ∙ spot_board lists boards c.self.invariant c.args.i there c.args.k within 0 in
    let known = spot_known lists boards c.self.invariant c.args.i there c.args.k within in
    let hits : c.index-2.result.now ≡ get_or lists (spot_in (row_in (rows_seen lists 0 boards) c.args.i) c.args.k).board [] =
    c.index-2.ensures ∙ ap (λ (b : ℕ). get_or lists b c.index-2.result.now) board
    ∙ get_or_default lists (spot_in (row_in (rows_seen lists 0 boards) c.args.i) c.args.k).board c.index-2.result.now [] known in
    subst (λ (l : List Hit). IsApart l c.args.i (own_hits c.args.i l)) (sym hits) (spot_apart lists boards c.self.invariant c.args.i there c.args.k within)

pub hit-hit-requires-clause-rank : goal.hit-hit-requires-clause-rank
hit-hit-requires-clause-rank c =
    let lists = c.self.inside.lists.items in
    let boards = c.self.inside.rows.items in
    let there = game_there lists boards c.args.self.now c.self.invariant c.self.view_is c.args.i c.requires.game in
    let on : c.boards-boards.result.now ≡ get_or boards c.args.i [] = c.boards-boards.ensures ∙ c.index.ensures ∙ get_or_default boards c.args.i c.index.result.now [] there in
    let within : c.args.k < length (get_or boards c.args.i []) =
    omega (arith, c.requires.spot, row_length lists boards c.args.self.now c.self.invariant c.self.view_is c.args.i c.requires.game) in
    let board : get_or c.boards-boards.result.now c.args.k 0 ≡ (spot_in (row_in (rows_seen lists 0 boards) c.args.i) c.args.k).board =
    ap (λ (l : List ℕ). get_or l c.args.k 0) on ∙ spot_board lists boards c.self.invariant c.args.i there c.args.k within 0 in
    let known = spot_known lists boards c.self.invariant c.args.i there c.args.k within in
    let hits : c.index-2.result.now ≡ get_or lists (spot_in (row_in (rows_seen lists 0 boards) c.args.i) c.args.k).board [] =
    c.index-2.ensures ∙ ap (λ (b : ℕ). get_or lists b c.index-2.result.now) board
    ∙ get_or_default lists (spot_in (row_in (rows_seen lists 0 boards) c.args.i) c.args.k).board c.index-2.result.now [] known in
    omega (
      arith,
      spot_rank lists boards c.self.invariant c.args.i there c.args.k within,
      c.times.ensures.times ∙ (λ j. times (board j) ((c.split_at.ensures.front ∙ ap (take c.args.k) on) j)),
      ap (λ (l : List Hit). length (own_hits c.args.i l)) hits,
    )

pub returns : goal.returns
returns c =
    let lists = c.self.inside.lists.items in
    let boards = c.self.inside.rows.items in
    let there = game_there lists boards c.args.self.now c.self.invariant c.self.view_is c.args.i c.requires.game in
    let on : c.boards-boards.result.now ≡ get_or boards c.args.i [] = c.boards-boards.ensures ∙ c.index.ensures ∙ get_or_default boards c.args.i c.index.result.now [] there in
    let within : c.args.k < length (get_or boards c.args.i []) =
    omega (arith, c.requires.spot, row_length lists boards c.args.self.now c.self.invariant c.self.view_is c.args.i c.requires.game) in
    let board : get_or c.boards-boards.result.now c.args.k 0 ≡ (spot_in (row_in (rows_seen lists 0 boards) c.args.i) c.args.k).board =
    ap (λ (l : List ℕ). get_or l c.args.k 0) on ∙ spot_board lists boards c.self.invariant c.args.i there c.args.k within 0 in
    let known = spot_known lists boards c.self.invariant c.args.i there c.args.k within in
    let hits : c.index-2.result.now ≡ get_or lists (spot_in (row_in (rows_seen lists 0 boards) c.args.i) c.args.k).board [] =
    c.index-2.ensures ∙ ap (λ (b : ℕ). get_or lists b c.index-2.result.now) board
    ∙ get_or_default lists (spot_in (row_in (rows_seen lists 0 boards) c.args.i) c.args.k).board c.index-2.result.now [] known in
    let rank = c.times.ensures.times ∙ (λ j. times (board j) ((c.split_at.ensures.front ∙ ap (take c.args.k) on) j)) in
    let hit = c.hit-hit.ensures ∙ (λ j. hit_in (own_hits c.args.i (hits j)) (rank j)) ∙ spot_hit lists boards c.self.invariant c.args.i there c.args.k within in
    (λ j. spot_of (board j) (hit j)) ∙ ap (λ (l : Listed). spot_in (row_in l.rows c.args.i) c.args.k) c.self.view_is
