-- What edits make of a position index (this project's own). Only contracts of functions that no reader of a script needs cite this.
use Rattle.std.specs.Prelude.{ℕ, [], ◌∷◌, ◌++◌, slice_set}
use Rattle.game_tree.specs.Game.{GameTree}
use Rattle.pos_index.specs.Hits.{Index, places_of}

-- With one game more, and with a game in the place of another one.
abbrev pub index_with : GameTree → Index → Index
index_with game index = record index { rows = index.rows ++ places_of index.depth game ∷ [] }

abbrev pub index_with_at : ℕ → GameTree → Index → Index
index_with_at i game index = record index { rows = slice_set index.rows i (places_of index.depth game) }
