-- A line as far as it was read: what follows from there gives the whole. No public contract cites these words.
use Rattle.std.specs.Prelude.{◌≡◌, ℕ, ◌-◌, ◌≤◌, List, [], ◌++◌, length, drop}
use Rattle.game_tree.specs.Movetext.{Movetext}
use Rattle.game_codec.specs.Moves.{SpellsMoves, Upto, BreaksMoves}
use Rattle.game_codec.specs.Place.{Place}
use Rattle.game_codec.specs.Scanning.{tokens_then}
use Rattle.game_codec.specs.Token.{Token}
use Rattle.game_codec.specs.declared.fault.RecordWhat.{RecordWhat}

-- A movetext with these items that the bytes spell, and these bytes follow.
pub record Spelled (p : Place) (bytes behind : List ℕ) (tokens : List Token) : Type 0 where
  pub movetext : Movetext
  pub spells : SpellsMoves p movetext bytes behind
  pub items : tokens_then movetext [] ≡ tokens

-- Whatever follows from here follows from the beginning of the line behind these items.
pub record HasFollowed (start : Place) (bytes : List ℕ) (now : Place) (rest : List ℕ) (tokens : List Token) : Type 0 where
  pub within : length rest ≤ length bytes
  pub left : rest ≡ drop (length bytes - length rest) bytes
  pub spells : (more : List Token) (behind : List ℕ) → Spelled now rest behind more → Spelled start bytes behind (tokens ++ more)
  pub breaks : (u : Upto) (from : List ℕ) (w : RecordWhat) → BreaksMoves now u rest from w → (v : Upto) × BreaksMoves start v bytes from w
