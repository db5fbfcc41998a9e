use Rattle.std.proofs.Common.{◌≡◌, drop, true}
use Rattle.game_tree.specs.Legal.{IsLegalLine, AreLegalBranches}
use Rattle.game_tree.specs.Tree.{line_of, branches_of}
use Rattle.game_tree.specs.Written.{movetext_of}
use Rattle.pgn_write.specs.Tokens.{tokens_from}
use Rattle.pgn_write.specs.Writing.{put_all, size, IsLow, turn, branch_tokens}
use Rattle.pgn_write.proofs.movetext.+lines.Given as goal

-- What is left gives the same as all.
abbrev pub invariant-put_line-loop-node : goal.invariant-put_line-loop-node
invariant-put_line-loop-node l = record {
  legal : IsLegalLine l.position (line_of (drop l.node-index l.line));
  low : IsLow l.position.side l.number (size l.writer);
  tokens : put_all (tokens_from (turn l.position l.number) (turn l.position l.number) l.resumed (movetext_of (line_of (drop l.node-index l.line)))) l.writer
      ≡ put_all (tokens_from (turn l.start l.first) (turn l.start l.first) true (movetext_of (line_of l.line))) l.initial.writer;
}

abbrev pub invariant-put_branches-loop-branch : goal.invariant-put_branches-loop-branch
invariant-put_branches-loop-branch l = record {
  legal : AreLegalBranches l.start (branches_of (drop l.branch-index l.branches));
  low : IsLow l.start.side l.first (size l.writer);
  tokens : put_all (branch_tokens (turn l.start l.first) (branches_of (drop l.branch-index l.branches))) l.writer
      ≡ put_all (branch_tokens (turn l.start l.first) (branches_of l.branches)) l.initial.writer;
}
