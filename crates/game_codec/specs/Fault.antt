-- The first fault of bytes that are no record (this project's own): all that stands before it is as in a record.
use Rattle.std.specs.Prelude.{◌≡◌, ℕ, ◌⊎◌, List, Err, length}
use Rattle.game_tree.specs.Movetext.{Movetext}
use Rattle.game_tree.specs.declared.head.Tag.{Tag}
use Rattle.move_codec.specs.Numbers.{Numbered}
use Rattle.game_codec.specs.RecordAnswer.{place_of, record_answer}
use Rattle.game_codec.specs.TagReading.{BeginsTags, BreaksTags}
use Rattle.game_codec.specs.Start.{BeginsStart, BreaksStart}
use Rattle.game_codec.specs.Place.{beginning}
use Rattle.game_codec.specs.Moves.{SpellsMoves, Upto, BreaksMoves}
use Rattle.game_codec.specs.Texts.{BreaksTexts, texts_of}
use Rattle.game_codec.specs.declared.fault.DecodeError.{DecodeError}
use Rattle.game_codec.specs.declared.fault.DecodeError.TheVariants as error
use Rattle.game_codec.specs.declared.fault.RecordFault.{RecordFault}
use Rattle.game_codec.specs.declared.fault.RecordWhat.{RecordWhat}

-- This is the first fault of the bytes.
pub record IsRecordFault (bytes : List ℕ) (fault : RecordFault) : Type 0 where
  pub answer : record_answer bytes ≡ Err fault

-- The fault stands in the tags.
pub record BreaksInTags (bytes rest : List ℕ) (what : RecordWhat) : Type 0 where
  pub tags : List Tag
  pub breaks : BreaksTags bytes tags rest what

-- In the start, behind whole tags.
pub record BreaksInStart (bytes rest : List ℕ) (what : RecordWhat) : Type 0 where
  pub tags : List Tag
  pub behind_tags : List ℕ
  pub tags_first : BeginsTags bytes tags behind_tags
  pub breaks : BreaksStart behind_tags rest what

-- In the moves.
pub record BreaksInMoves (bytes rest : List ℕ) (what : RecordWhat) : Type 0 where
  pub tags : List Tag
  pub start : Numbered
  pub upto : Upto
  pub behind_tags : List ℕ
  pub behind_start : List ℕ
  pub tags_first : BeginsTags bytes tags behind_tags
  pub then_start : BeginsStart behind_tags start behind_start
  pub breaks : BreaksMoves (beginning 0 start) upto behind_start rest what

-- In the texts of the comments.
pub record BreaksInTexts (bytes rest : List ℕ) (what : RecordWhat) : Type 0 where
  pub tags : List Tag
  pub start : Numbered
  pub movetext : Movetext
  pub behind_tags : List ℕ
  pub behind_start : List ℕ
  pub behind_moves : List ℕ
  pub tags_first : BeginsTags bytes tags behind_tags
  pub then_start : BeginsStart behind_tags start behind_start
  pub then_moves : SpellsMoves (beginning 0 start) movetext behind_start behind_moves
  pub breaks : BreaksTexts (length (texts_of movetext)) behind_moves rest what

-- The bytes have this fault, and these bytes stand from the faulty item on.
abbrev pub Breaks : List ℕ → List ℕ → RecordWhat → Type 0
Breaks bytes rest what =
    BreaksInTags bytes rest what ⊎ (BreaksInStart bytes rest what ⊎ (BreaksInMoves bytes rest what ⊎ BreaksInTexts bytes rest what))

-- The same in words: the bytes break off there, and the place is that of the fault.
pub record IsBroken (bytes : List ℕ) (fault : RecordFault) : Type 0 where
  pub rest : List ℕ
  pub breaks : Breaks bytes rest fault.what
  pub place : fault.place ≡ place_of (length bytes) rest fault.what

-- An error that is no want of memory tells a fault of which this holds.
abbrev pub IfBad : (RecordFault → Type 0) → DecodeError → Type 0
IfBad Holds (error.Bad fault) = Holds fault
IfBad Holds error.Memory = Unit {0}
