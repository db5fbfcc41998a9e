use Rattle.std.proofs.Common.{◌≡◌, ◌≤◌, ◌+◌, ◌*◌, All, drop, length, IfSome, IsTrue}
use Rattle.base_core.specs.Opening.{records_len}
use Rattle.base_core.specs.Reading.{AreRead}
use Rattle.base_core.specs.Represents.{IsKept}
use Rattle.base_core.proofs.reading.read_games.Given as goal

-- Each game so far was read; the files have told nothing else, and were asked for the records so far.
abbrev pub invariant-loop-game : goal.invariant-loop-game
invariant-loop-game g l = record {
  read : IfSome (g.F.Files.seen l.fn.files).games (λ games. AreRead l.fn.o.strict l.fn.index.items l.fn.o.names.now games l.part.read l.mended);
  count : length l.part.read ≡ l.game;
  ahead : l.part.ahead ≡ drop (182 + 47 * l.game) l.fn.index.items;
  kept : All (IsKept l.fn.o.names.now l.fn.o.end) l.part.read;
  few : l.mended ≤ l.game;
  strictly : IsTrue l.fn.o.strict → l.mended ≡ 0;
  asks : g.F.Files.asked l.files ≤ g.F.Files.asked l.fn.files + records_len l.fn.index.items l.game;
  unchanged : g.F.Files.seen l.files ≡ g.F.Files.seen l.fn.files;
  counts : g.F.Files.faults l.fn.files ≤ g.F.Files.faults l.files;
}
