use Rattle.std.proofs.Common.{◌≡◌, ◌++◌, ◌-◌, ◌≤◌, drop, length, map, replicate, take}
use Rattle.filter_seat.proofs.FollowLaws.{kept_longer}
use Rattle.filter_seat.proofs.following.add_games.Given as goal

-- The filters that the loop has passed have so many games, and the others not yet.
abbrev pub invariant-loop-kept : goal.invariant-loop-kept
invariant-loop-kept l = record {
  filter : l.filter ≡ l.fn.filter ++ replicate (l.fn.games - length l.fn.filter) l.fn.entry;
  few : length l.filter ≤ l.fn.games;
  saved : l.saved ≡ map (kept_longer l.fn.games) (take l.kept-index l.fn.saved) ++ drop l.kept-index l.fn.saved;
}
