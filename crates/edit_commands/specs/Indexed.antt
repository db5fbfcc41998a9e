-- What becomes of a position index if the games get new numbers. Only private functions cite this.
use Rattle.std.specs.Prelude.{ℕ, List, Option}
use Rattle.game_filter.specs.Renumbering.{renumbered}
use Rattle.pos_index.specs.Hits.{Index}

abbrev pub renumbered_index : List (Option ℕ) → Index → Index
renumbered_index to index = record index { rows = renumbered to index.rows }
