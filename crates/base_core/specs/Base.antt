-- A base as plain values: what its three files mean (this project's own).
use Rattle.std.specs.Prelude.{ℕ, List, [], replicate}
use Rattle.game_tree.specs.Game.{GameTree}
use Rattle.game_tree.specs.declared.head.Head.{Head}
use Rattle.index_entry.specs.declared.index.IndexHead.{IndexHead}
use Rattle.name_base.specs.NameLists.{NameLists, no_names}

-- A game of a base: its head with the names written out, its moves, and the length of its record in bytes.
pub record Held : Type 0 where
  pub head : Head
  pub game : GameTree
  pub len : ℕ

-- What the index says of the whole base, the names of each kind by id, the games in their order, and the length of the games file.
pub record Base : Type 0 where
  pub header : IndexHead
  pub names : NameLists
  pub games : List Held
  pub end : ℕ

-- The header of a base that is created: no games, and zeros in all that it keeps.
abbrev pub empty_header : IndexHead
empty_header = record { kind = 0; games = 0; autoload = 0; description = replicate 108 0; custom = replicate 54 0 }

-- A base that is created.
abbrev pub empty_base : Base
empty_base = record { header = empty_header; names = no_names; games = []; end = 0 }
