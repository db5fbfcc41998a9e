-- How far a body was read. This project's own.
use Rattle.std.specs.Prelude.{◌≡◌, ◌≤◌, ◌<◌, ℕ, ◌+◌, ◌-◌, Bool, true, false, List, [], ◌++◌, length, take, drop, Option, Some, None}
use Rattle.base_files.specs.Counters.{raised}
use Rattle.base_files.specs.Feeds.{told_after}
use Rattle.base_files.specs.Told.{before}
use Rattle.script_lines.specs.Bodies.{body_of}
use Rattle.script_lines.specs.Reading.{Reader}
use Rattle.script_lines.specs.Script.{longest_script}
use Rattle.script_lines.specs.declared.place.At.{At}
use Rattle.script_lines.specs.declared.place.At.TheVariants.{Line, Inside, Behind, End}
use Rattle.script_lines.specs.declared.place.Place.{Place}
use Rattle.script_lines.specs.declared.reader.ReadError.TheVariants as error

-- The beginning of a body: whether the lines of the script name their clients, the word that ends the body, and what is
-- ahead, if the input tells it. Then come how many bytes of the script were taken, how many bytes were read or may come in
-- all, and the budget and the faults of the input.
pub record Start : Type 0 where
  pub tagged : Bool
  pub word : List ℕ
  pub ahead : Option (List ℕ)
  pub used : ℕ
  pub sum : ℕ
  pub budget : ℕ
  pub faults : ℕ

-- A body begins at the place of a reader over this input.
abbrev pub start_at : List ℕ → Reader → Option (List ℕ) → ℕ → ℕ → Start
start_at word reader left budget faults = record {
  tagged = reader.tagged;
  word = word;
  ahead = before reader.unread left;
  used = reader.used;
  sum = budget + (reader.used + length reader.unread);
  budget = budget;
  faults = faults;
}

-- Whether more of the body may come, and whether a line begins there.
abbrev pub is_open : At → Bool
is_open Line = true
is_open Inside = true
is_open (Behind line) = false
is_open End = false

abbrev pub is_fresh : At → Bool
is_fresh Line = true
is_fresh _ = false

-- What is left of the body, of what is ahead.
abbrev pub rest_of : List ℕ → At → List ℕ → List ℕ
rest_of word Line ahead = (body_of word true ahead).bytes
rest_of word Inside ahead = (body_of word false ahead).bytes
rest_of word (Behind line) ahead = []
rest_of word End ahead = []

abbrev pub rest_told : List ℕ → At → Option (List ℕ) → Option (List ℕ)
rest_told word at None = None
rest_told word at (Some ahead) = Some (rest_of word at ahead)

abbrev pub left_of : Place → Option (List ℕ) → Option (List ℕ)
left_of p left = rest_told p.word.items p.at (before p.reader.unread left)

-- How many bytes may still come. The line that ends the body counts as if it were still there.
abbrev pub end_size : At → ℕ
end_size (Behind line) = line
end_size _ = 0

abbrev pub still_left : Place → ℕ → ℕ
still_left p budget = budget + (length p.reader.unread + end_size p.at)

-- So many bytes of the body were read, and what is left of it is what these bytes begin with.
pub record IsRead (word : List ℕ) (ahead : List ℕ) (count : ℕ) (fresh : Bool) : Type 0 where
  pub bytes : (body_of word true ahead).bytes ≡ take count ahead ++ (body_of word fresh (drop count ahead)).bytes
  pub end : (body_of word true ahead).end ≡ (body_of word fresh (drop count ahead)).end

-- The whole body was read, and the line of so many bytes that ends it.
pub record IsWhole (word : List ℕ) (ahead : List ℕ) (count line : ℕ) : Type 0 where
  pub fits : line ≤ count
  pub bytes : (body_of word true ahead).bytes ≡ take (count - line) ahead
  pub end : (body_of word true ahead).end ≡ Some line

-- No line ends the body within so many bytes.
abbrev pub NoEnd : List ℕ → List ℕ → ℕ → Type 0
NoEnd word ahead count = (body_of word true (take count ahead)).end ≡ None

-- The fact about what was ahead at the beginning, if the input tells what it has.
abbrev pub IfAhead : Start → (List ℕ → Type 0) → Type 0
IfAhead s fact = (ahead : List ℕ) → s.ahead ≡ Some ahead → fact ahead

-- A place at which a reader begins a body.
pub record IsBegun (lines : Reader) (end : List ℕ) (p : Place) : Type 0 where
  pub reader : p.reader ≡ lines
  pub word : p.word.items ≡ end
  pub at : p.at ≡ Line
  pub free : p.stuck ≡ None
  pub refused : p.refused ≡ 0

-- What is known at a place of the body that begins there.
pub record Standing (s : Start) (p : Place) (left : Option (List ℕ)) (budget faults : ℕ) : Type 0 where
  pub tagged : p.reader.tagged ≡ s.tagged
  pub word : p.word.items ≡ s.word
  pub short : length p.word.items ≤ 32
  pub ahead : before p.reader.unread left ≡ told_after (p.reader.used - s.used) s.ahead
  pub there : IfAhead s (λ ahead. p.reader.used ≤ s.used + length ahead)
  pub begins : s.used ≤ p.reader.used
  pub sum : budget + (p.reader.used + length p.reader.unread) ≡ s.sum
  pub falls : budget ≤ s.budget
  pub counts : s.faults ≤ faults
  pub inside : is_open p.at ≡ true → IfAhead s (λ ahead. IsRead s.word ahead (p.reader.used - s.used) (is_fresh p.at))
  pub behind : (line : ℕ) → p.at ≡ Behind line → IfAhead s (λ ahead. IsWhole s.word ahead (p.reader.used - s.used) line)
  pub ended : p.at ≡ End → IfAhead s (λ ahead. NoEnd s.word ahead (length ahead))
  pub at_end : p.at ≡ End → (later : List ℕ) → left ≡ Some later → later ≡ []
  pub within : p.at ≡ End → p.reader.used + length p.reader.unread ≤ longest_script
  pub free : p.stuck ≡ None → p.refused ≡ 0
  pub failed : p.stuck ≡ Some error.Failed → raised s.faults 1 ≤ faults
  pub in_vain : p.stuck ≡ Some error.Failed → IfAhead s (λ ahead. NoEnd s.word ahead (p.reader.used - s.used + length p.reader.unread))
  pub too_long : p.stuck ≡ Some error.TooLong → longest_script < p.reader.used + length p.reader.unread
  pub full : p.stuck ≡ Some error.TooLong → IfAhead s (λ ahead. NoEnd s.word ahead (longest_script - s.used))
  pub no_other : p.stuck ≡ Some error.Memory → ⊥
