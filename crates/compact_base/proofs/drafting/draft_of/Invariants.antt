use Rattle.std.proofs.Common.{◌≤◌, length}
use Rattle.compact_base.specs.Drafting.{HasFirst}
use Rattle.compact_base.proofs.drafting.draft_of.Given as goal

-- The games so far are taken over or gone.
abbrev pub invariant-loop-i : goal.invariant-loop-i
invariant-loop-i l = record {
  within : l.i ≤ length l.fn.base.entries;
  drafted : HasFirst l.i l.fn.base l.draft;
}
