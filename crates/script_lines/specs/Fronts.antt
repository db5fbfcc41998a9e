-- What stands at the front of the bytes that were read of a body. Only private functions cite this.
use Rattle.std.specs.Prelude.{◌≡◌, ◌≤◌, ◌<◌, ℕ, suc, ◌+◌, ◌-◌, ◌==◌, Bool, true, false, not, ◌&&◌, ◌⊎◌, List, [], ◌∷◌, ◌++◌, length, take, Option, Some, None, option_map}
use Rattle.base_files.specs.Told.{before, Tells}
use Rattle.script_lines.specs.Bodies.{feed_at, is_word}
use Rattle.script_lines.specs.Reading.{Reader}
use Rattle.script_lines.specs.Script.{longest_script}
use Rattle.script_lines.specs.Standing.{is_fresh}
use Rattle.script_lines.specs.declared.place.At.{At}
use Rattle.script_lines.specs.declared.place.At.TheVariants.{Line, Inside, Behind, End}
use Rattle.script_lines.specs.declared.place.Front.{Front}
use Rattle.script_lines.specs.declared.place.Place.{Place}
use Rattle.script_lines.specs.declared.place.Front.TheVariants as front
use Rattle.script_lines.specs.declared.reader.ReadError.{ReadError}
use Rattle.script_lines.specs.declared.reader.ReadError.TheVariants as error

-- The unread bytes within the greatest length of a script.
abbrev pub within : Reader → List ℕ
within reader = take (longest_script - reader.used) reader.unread

-- Whatever follows, no line that is the word begins with these bytes; they are one; it may yet be one.
abbrev pub Says : List ℕ → Bool → List ℕ → Front → Type 0
Says word fresh bytes front.Body = (0 < length bytes) × ((more : List ℕ) → (fresh && is_word word (bytes ++ more)) ≡ false)
Says word fresh bytes (front.Ends line) = (fresh ≡ true) × ((option_map suc (feed_at bytes) ≡ Some line) × (is_word word bytes ≡ true))
Says word fresh bytes front.Open = (feed_at bytes ≡ None) × (length bytes ≤ length word + 1)

-- Whether they begin with another byte than the word.
abbrev pub begins_otherwise : List ℕ → List ℕ → Bool
begins_otherwise (wanted ∷ word) (byte ∷ bytes) = not (byte == wanted)
begins_otherwise _ _ = false

-- Why no more is known.
abbrev pub StopsAt : Reader → ReadError → Type 0
StopsAt reader error.Failed = feed_at reader.unread ≡ None
StopsAt reader error.TooLong = (feed_at (within reader) ≡ None) × (longest_script < reader.used + length reader.unread)
StopsAt reader error.Memory = ⊥

-- A part of a body ends at a line's end, or inside a line.
abbrev pub EndsAt : List ℕ → At → Type 0
EndsAt part Line = option_map suc (feed_at part) ≡ Some (length part)
EndsAt part Inside = feed_at part ≡ None
EndsAt part (Behind line) = ⊥
EndsAt part End = ⊥

-- What stands there at the end of the input.
abbrev pub IsLast : List ℕ → Bool → List ℕ → Front → Type 0
IsLast word fresh bytes front.Body = (0 < length bytes) × ((fresh && is_word word bytes) ≡ false)
IsLast word fresh bytes (front.Ends line) = ⊥
IsLast word fresh bytes front.Open = (bytes ≡ []) ⊎ ((fresh && is_word word bytes) ≡ true)

-- What was found there, with what the input has left: a byte of the body within the greatest length of a script, the line that ends it there,
-- or that the input ends it.
abbrev pub Seen : Place → Option (List ℕ) → Front → Type 0
Seen p left front.Body = (0 < length (within p.reader)) × ((ahead : List ℕ) → before p.reader.unread left ≡ Some ahead → (is_fresh p.at && is_word p.word.items ahead) ≡ false)
Seen p left (front.Ends line) = Says p.word.items (is_fresh p.at) (within p.reader) (front.Ends line)
Seen p left front.Open = (feed_at p.reader.unread ≡ None) × (Tells left [] × ((p.reader.unread ≡ []) ⊎ ((is_fresh p.at && is_word p.word.items p.reader.unread) ≡ true)))
