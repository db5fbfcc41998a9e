-- The games of a base in memory (this project's own).
use Rattle.std.specs.Prelude.{ℕ, List, map}
use Rattle.base_files.specs.declared.extent.Extent.{Extent}
use Rattle.game_tree.specs.Head.{without_tags}
use Rattle.game_tree.specs.declared.head.Head.{Head}
use Rattle.sig_index.specs.declared.signature.Sig.{Sig}

-- What is kept of a game: its head without tags, its signature, and where its record stands.
pub record Kept : Type 0 where
  pub head : Head
  pub sig : Sig
  pub extent : Extent

-- What is kept of a game with this head and this signature, whose record of so many bytes stands at this place.
abbrev pub kept_of : Head → Sig → ℕ → ℕ → Kept
kept_of head sig offset len = record { head = without_tags head; sig = sig; extent = record { offset = offset; len = len } }

-- The heads, the signatures and the extents of games.
abbrev pub heads_of : List Kept → List Head
heads_of games = map (λ game. game.head) games

abbrev pub sigs_of : List Kept → List Sig
sigs_of games = map (λ game. game.sig) games

abbrev pub extents_of : List Kept → List Extent
extents_of games = map (λ game. game.extent) games
