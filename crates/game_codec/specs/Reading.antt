-- Where a reading is in the bytes of a record, and what it has met. No public contract cites these words.
use Rattle.std.specs.Prelude.{◌≡◌, ℕ, ◌+◌, ◌<◌, ◌≤◌, ◌^◌, List, [], ◌∷◌, length, drop}
use Rattle.cell_core.specs.declared.step.Move.{Move}
use Rattle.chess_laws.specs.Step.{Step}
use Rattle.game_tree.specs.Game.{GameTree}
use Rattle.game_tree.specs.declared.head.Tag.{Tag}
use Rattle.move_codec.specs.Numbers.{Numbered}
use Rattle.game_codec.specs.Breach.{Tells}
use Rattle.game_codec.specs.Moves.{Upto, BreaksMoves}
use Rattle.game_codec.specs.Fault.{Breaks}
use Rattle.game_codec.specs.Place.{Place, Takes, beginning}
use Rattle.game_codec.specs.Record.{IsRecord}
use Rattle.game_codec.specs.Start.{BeginsStart}
use Rattle.game_codec.specs.TagReading.{BeginsTags}
use Rattle.game_codec.specs.Tallying.{HasTallied, no_tally, size_of}
use Rattle.game_codec.specs.Token.{End}
use Rattle.game_codec.specs.Totals.{AreTotals}
use Rattle.game_codec.specs.Walking.{GoesOn, IsBehind}
use Rattle.game_codec.specs.declared.breach.Breach.{Breach}
use Rattle.game_codec.specs.declared.reading.At.{At}
use Rattle.game_codec.specs.declared.reading.Item.{Item}
use Rattle.game_codec.specs.declared.reading.Item.TheVariants as item
use Rattle.game_codec.specs.declared.tally.Tally.{Tally}
use Rattle.game_codec.specs.declared.totals.Totals.{Totals}

-- Any line that was read as far as the one place was read as far as the other.
pub record Reads (p q : At) : Type 0 where
  pub main : q.place.now.depth ≡ p.place.now.depth
  pub room : size_of q.tally + length q.rest.now ≤ size_of p.tally + length p.rest.now
  pub shorter : length q.rest.now ≤ length p.rest.now
  pub on : (start : Place) (bytes : List ℕ) (before : Tally) → HasTallied start bytes p.place.now p.rest.now before p.tally
      → HasTallied start bytes q.place.now q.rest.now before q.tally

-- Between the two stands no move of the main line.
pub record Passes (p q : At) : Type 0 where
  pub reads : Reads p q
  pub same : q.place.now.here ≡ p.place.now.here
  pub goes : (moves : List Move) → GoesOn p.place.now.here moves p.rest.now → GoesOn p.place.now.here moves q.rest.now

-- Between the two stands this move of the main line alone.
pub record Plays (p : At) (m : Move) (q : At) : Type 0 where
  pub reads : Reads p q
  pub less : length q.rest.now < length p.rest.now
  pub step : Step p.place.now.here.position m q.place.now.here.position
  pub goes : (moves : List Move) → GoesOn p.place.now.here moves p.rest.now → (later : List Move) × ((moves ≡ m ∷ later) × GoesOn q.place.now.here later q.rest.now)

-- The main line ends here.
pub record Ends (p : At) : Type 0 where
  pub takes : Takes p.place.now p.rest.now End (drop 1 p.rest.now)
  pub goes : (moves : List Move) → GoesOn p.place.now.here moves p.rest.now → moves ≡ []

-- What one item of a main line does.
abbrev pub Does : At → Item → At → Type 0
Does p item.Mark q = Passes p q × (length q.rest.now < length p.rest.now)
Does p (item.Play m) q = Plays p m q
Does p item.End q = Passes p q × Ends q

-- The fault of any line that was read as far as here.
abbrev pub BreaksLine : At → Breach → Type 0
BreaksLine p breach =
    (start : Place) (bytes : List ℕ) (before : Tally) → HasTallied start bytes p.place.now p.rest.now before p.tally
    → Tells (λ from what. (v : Upto) × BreaksMoves start v bytes from what) breach

-- The whole tags and the start of the bytes were read, and the main line from there on as far as here.
pub record HasRead (bytes : List ℕ) (p : At) : Type 0 where
  pub tags : List Tag
  pub start : Numbered
  pub behind_tags : List ℕ
  pub behind_start : List ℕ
  pub tags_first : BeginsTags bytes tags behind_tags
  pub then_start : BeginsStart behind_tags start behind_start
  pub tallied : HasTallied (beginning 0 start) behind_start p.place.now p.rest.now no_tally p.tally
  pub main : p.place.now.depth ≡ 0
  pub room : size_of p.tally + length p.rest.now ≤ length bytes

-- And if the bytes are a record, this is in the main line of its game.
pub record IsReading (bytes : List ℕ) (p : At) (ply : ℕ) : Type 0 where
  pub few : length bytes < 2 ^ 32
  pub left : ply + length p.rest.now ≤ length bytes
  pub read : HasRead bytes p
  pub follows : (tags : List Tag) (game : GameTree) → IsRecord bytes tags game → IsBehind game p.place.now.here ply p.rest.now

-- Bytes that were read as far as here are a record of a game that has these totals; or they have this fault.
abbrev pub Finishes : At → Totals → Type 0
Finishes p totals =
    (bytes : List ℕ) → HasRead bytes p → (tags : List Tag) × ((game : GameTree) × (IsRecord bytes tags game × AreTotals game totals))

abbrev pub BreaksRecord : At → Breach → Type 0
BreaksRecord p breach = (bytes : List ℕ) → HasRead bytes p → Tells (Breaks bytes) breach
