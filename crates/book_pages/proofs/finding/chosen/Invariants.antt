use Rattle.std.proofs.Common.{◌≡◌, take}
use Rattle.book_pages.proofs.ReachLemmas.{chosen_of}
use Rattle.book_pages.proofs.finding.chosen.Given as goal

-- The boards are those of the boards before this one, as long as there is room.
abbrev pub invariant-loop-number : goal.invariant-loop-number
invariant-loop-number l = l.boards.keys ≡ take 20000 (chosen_of l.reach.start l.counts.boards.keys l.counts.met.items l.least l.number)
