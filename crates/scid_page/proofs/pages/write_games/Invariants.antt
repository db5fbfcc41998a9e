use Rattle.std.proofs.Common.{◌≡◌}
use Rattle.scid_page.specs.Putting.{Stay}
use Rattle.scid_page.proofs.pages.write_games.Given as goal

-- What the files tell stays, and what was put down.
abbrev pub invariant-loop-number : goal.invariant-loop-number
invariant-loop-number g l = record {
  seen : g.F.Files.seen l.files ≡ g.F.Files.seen l.fn.files;
  stay : Stay (g.S.Shelf.told l.fn.shelf) (g.S.Shelf.told l.shelf);
}
