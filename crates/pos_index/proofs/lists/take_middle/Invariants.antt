use Rattle.std.proofs.Common.{◌≡◌, ◌<◌, ◌++◌, List, length, drop, map}
use Rattle.pos_index.specs.declared.spot.Spot.{Spot}
use Rattle.pos_index.specs.Keeping.{AreListed, board_of, row_in, with_row}
use Rattle.pos_index.proofs.lists.take_middle.Given as goal

-- The spots that are left still have their hits.
abbrev pub invariant-loop-k : goal.invariant-loop-k
invariant-loop-k l = record {
  len : length l.lists ≡ length l.fn.lists;
  left : (rows : List (List Spot)) (before spots behind : List Spot) → l.game < length rows → row_in rows l.game ≡ before ++ (spots ++ behind) → l.front ≡ map board_of before
      → l.fn.boards ≡ map board_of spots → AreListed l.fn.lists rows → AreListed l.lists (with_row rows l.game (before ++ (drop l.k spots ++ behind)));
}
