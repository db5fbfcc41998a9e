use Rattle.std.proofs.Common.{◌≡◌, ◌++◌, drop}
use Rattle.std.specs.Prelude.{fold}
use Rattle.chess_laws.specs.Step.{stepped}
use Rattle.game_tree.specs.Legal.{IsLegalLine, AreLegalBranches}
use Rattle.game_tree.specs.Tree.{line_of, branches_of, moves_of}
use Rattle.game_tree.specs.Written.{movetext_of}
use Rattle.game_codec.specs.Texts.{texts_of, ended}
use Rattle.game_codec.specs.Written.{moves_text}
use Rattle.game_codec.specs.Writing.{variations_text, variations_texts}
use Rattle.game_codec.proofs.moves.+lines.Given as goal

-- What is left gives the same as all.
abbrev pub invariant-put_line-loop-node : goal.invariant-put_line-loop-node
invariant-put_line-loop-node l = record {
  legal : IsLegalLine l.position.position (line_of (drop l.node-index l.line));
  moves : l.body.moves.items ++ moves_text l.position l.position (movetext_of (line_of (drop l.node-index l.line)))
      ≡ l.initial.body.moves.items ++ moves_text l.initial.position l.initial.position (movetext_of (line_of l.line));
  texts : l.body.texts.items ++ ended (texts_of (movetext_of (line_of (drop l.node-index l.line))))
      ≡ l.initial.body.texts.items ++ ended (texts_of (movetext_of (line_of l.line)));
  end : fold stepped l.position.position (moves_of (line_of (drop l.node-index l.line))) ≡ fold stepped l.initial.position.position (moves_of (line_of l.line));
}

abbrev pub invariant-put_variations-loop-variation : goal.invariant-put_variations-loop-variation
invariant-put_variations-loop-variation l = record {
  legal : AreLegalBranches l.start.position (branches_of (drop l.variation-index l.variations));
  moves : l.body.moves.items ++ variations_text l.start (branches_of (drop l.variation-index l.variations))
      ≡ l.initial.body.moves.items ++ variations_text l.start (branches_of l.variations);
  texts : l.body.texts.items ++ variations_texts (branches_of (drop l.variation-index l.variations))
      ≡ l.initial.body.texts.items ++ variations_texts (branches_of l.variations);
}
