use Rattle.std.proofs.Common.{◌≡◌, ◌<◌, ◌-◌, ◌++◌, List, length, map, take}
use Rattle.pos_index.specs.declared.spot.Spot.{Spot}
use Rattle.pos_index.specs.Keeping.{AreListed, board_of, row_in, with_row}
use Rattle.pos_index.proofs.lists.take_lasts.Given as goal

-- The spots that are left still have their hits.
abbrev pub invariant-loop-k : goal.invariant-loop-k
invariant-loop-k l = record {
  len : length l.lists ≡ length l.fn.lists;
  left : (rows : List (List Spot)) (front spots : List Spot) → l.game < length rows → row_in rows l.game ≡ front ++ spots → l.fn.boards ≡ map board_of spots → AreListed l.fn.lists rows
      → AreListed l.lists (with_row rows l.game (front ++ take (length spots - l.k) spots));
}
