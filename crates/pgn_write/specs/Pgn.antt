-- The text of a game in Portable Game Notation (PGN standard, 8).
use Rattle.std.specs.Prelude.{ℕ, List, [], ◌∷◌, ◌++◌, flat_map}
use Rattle.game_tree.specs.declared.head.Head.{Head}
use Rattle.game_tree.specs.Game.{GameTree}
use Rattle.pgn_write.specs.TagPairs.{tag_text, tags_of}
use Rattle.pgn_write.specs.Tokens.{tokens_of}
use Rattle.pgn_write.specs.Layout.{layout}

-- The tags, an empty line, the movetext, and an empty line.
unfoldable pub pgn_of : Head → GameTree → List ℕ
pgn_of head game = flat_map tag_text (tags_of head game) ++ 10 ∷ (layout (tokens_of game head.result) ++ 10 ∷ 10 ∷ [])
