use Rattle.std.proofs.Common.{◌≡◌, ◌≤◌, ◌+◌, ◌-◌, ◌*◌, ◌++◌, IfSome}
use Rattle.mend_base.specs.Loose.{loose_in}
use Rattle.mend_base.proofs.loose.add_blocks.Given as goal

-- The records of the blocks so far are added.
abbrev pub invariant-loop-block : goal.invariant-loop-block
invariant-loop-block g l = record {
  added : IfSome (g.F.Files.seen l.fn.old).games (λ games. l.index.items ≡ l.fn.index.items ++ loose_in l.fn.marks games l.block);
  unchanged : g.F.Files.seen l.old ≡ g.F.Files.seen l.fn.old;
  asks : g.F.Files.asked l.old + (l.fn.end - 131072 * l.block) ≤ g.F.Files.asked l.fn.old + l.fn.end;
  counts : g.F.Files.faults l.fn.old ≤ g.F.Files.faults l.old;
}
