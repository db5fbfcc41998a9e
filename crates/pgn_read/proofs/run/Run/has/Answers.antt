-- The table is compared with the definition for each byte, by computing.
use Rattle.std.proofs.Common.{refl}
use Rattle.pgn_read.specs.Bytes.{is_of}
use Rattle.pgn_read.specs.Classes.{tells}
use Rattle.pgn_read.specs.declared.run.Run.TheVariants as run
use Rattle.pgn_read.proofs.run.Run.has.Goals as goal

pub returns-in-White : goal.returns-in-White
unfolding tells
returns-in-White c = record { has = rw c.in-White.is (c.is_in.ensures.told (is_of run.White) refl) }

pub returns-in-TagName : goal.returns-in-TagName
unfolding tells
returns-in-TagName c = record { has = rw c.in-TagName.is (c.is_in-in-TagName.ensures.told (is_of run.TagName) refl) }

pub returns-in-Digits : goal.returns-in-Digits
unfolding tells
returns-in-Digits c = record { has = rw c.in-Digits.is (c.is_in-in-Digits.ensures.told (is_of run.Digits) refl) }

pub returns-in-Dots : goal.returns-in-Dots
unfolding tells
returns-in-Dots c = record { has = rw c.in-Dots.is (c.is_in-in-Dots.ensures.told (is_of run.Dots) refl) }

pub returns-in-Glyphs : goal.returns-in-Glyphs
unfolding tells
returns-in-Glyphs c = record { has = rw c.in-Glyphs.is (c.is_in-in-Glyphs.ensures.told (is_of run.Glyphs) refl) }

pub returns-in-Move : goal.returns-in-Move
unfolding tells
returns-in-Move c = record { has = rw c.in-Move.is (c.is_in-in-Move.ensures.told (is_of run.Move) refl) }
