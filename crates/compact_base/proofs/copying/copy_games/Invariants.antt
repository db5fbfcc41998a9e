use Rattle.std.proofs.Common.{◌≤◌, ◌+◌, ◌*◌, drop, length}
use Rattle.compact_base.specs.Compacting.{kept_len}
use Rattle.compact_base.specs.Drafting.{AddsFirst, CopiedFirst}
use Rattle.compact_base.proofs.copying.copy_games.Given as goal

-- The records of the games so far that stay are copied, and no more than these was asked.
abbrev pub invariant-loop-i : goal.invariant-loop-i
invariant-loop-i g l = record {
  within : l.i ≤ length l.fn.base.entries;
  copied : CopiedFirst l.i l.fn.base l.end (g.F.Files.seen l.fn.files) (g.F.Files.seen l.files);
  records : AddsFirst l.i l.fn.base (g.F.Files.seen l.fn.files) (g.F.Files.seen l.files);
  small : l.end ≤ 262144 * l.i;
  asks : g.F.Files.asked l.files + kept_len (drop l.i l.fn.base.entries) ≤ g.F.Files.asked l.fn.files + kept_len l.fn.base.entries;
  counts : g.F.Files.faults l.fn.files ≤ g.F.Files.faults l.files;
}
