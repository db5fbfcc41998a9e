use Rattle.std.proofs.Common.{◌≡◌, ◌++◌, Bool, ℕ, List, take, drop}
use Rattle.pgn_read.specs.Bytes.{is_of, front, behind}
use Rattle.pgn_read.proofs.run.split_run.Given as goal

-- The bytes so far are in the run, and the rest of it is in what is left.
pub record InRun (test : ℕ → Bool) (before left text : List ℕ) : Type 0 where
  pub run : before ++ front test left ≡ front test text
  pub rest : behind test left ≡ behind test text

abbrev pub invariant-loop-i : goal.invariant-loop-i
invariant-loop-i l = InRun (is_of l.run) (take l.i l.bytes) (drop l.i l.bytes) l.fn.bytes
