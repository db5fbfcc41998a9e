-- What a walk over the lines of a game looks for. No public contract cites these words.
use Rattle.std.specs.Prelude.{Bool}
use Rattle.cell_core.specs.declared.step.Move.{Move}
use Rattle.game_tree.specs.Promotions.{is_promotion, is_underpromotion}
use Rattle.game_tree.specs.declared.promotions.Sought.{Sought}
use Rattle.game_tree.specs.declared.promotions.Sought.TheVariants.{Promotion, Underpromotion}

-- Whether a move is what is sought.
abbrev pub is_sought : Sought → Move → Bool
is_sought Promotion = is_promotion
is_sought Underpromotion = is_underpromotion
