-- What a reader of lines has taken of its input. This project's own.
use Rattle.std.specs.Prelude.{◌≡◌, ◌<◌, ℕ, ⊤, ◌+◌, Bool, List, [], ◌++◌, length, Option}
use Rattle.base_files.specs.Told.{before, Tells}
use Rattle.script_lines.specs.Bytewise.{script_from, behind_line}
use Rattle.script_lines.specs.Clients.{Clients, Tagged, heard, line_of}
use Rattle.script_lines.specs.Script.{Script, script, longest_script}
use Rattle.script_lines.specs.declared.line.Line.{Line}
use Rattle.script_lines.specs.declared.reader.ReadError.{ReadError}
use Rattle.script_lines.specs.declared.reader.ReadError.TheVariants.{Failed, TooLong, Memory}

-- Whether lines name their clients; the bytes that were read and not yet taken; the line so far, of which no more is kept than tells what it
-- says; and how many bytes were taken.
pub record Reader : Type 0 where
  pub tagged : Bool
  pub unread : List ℕ
  pub line : List ℕ
  pub used : ℕ

-- How many bytes of a line are kept at most.
abbrev pub most_kept : ℕ
most_kept = 65541

-- So many bytes more.
abbrev pub grown : ℕ → Script → Script
grown count s = script s.tasks (count + s.size)

-- A line that a line feed ends, and these bytes behind it.
abbrev pub led_on : (Tagged → List Tagged) → Clients → Line → List ℕ → Script
led_on last clients line more = behind_line last clients line more (λ n. script_from last (heard clients line) n [] more)

-- To whomever and whatever follows, these bytes behind the one line say what their number and the other line say.
abbrev pub Feeds : List ℕ → List ℕ → List ℕ → Type 0
Feeds line front later =
    (last : Tagged → List Tagged) (clients : Clients) (more : List ℕ) → script_from last clients 0 line (front ++ more) ≡ grown (length front) (script_from last clients 0 later more)

-- To all clients whose lines are of this kind, and whatever follows, these bytes end the line with a line feed, which says this.
abbrev pub Ends : Bool → List ℕ → List ℕ → Line → Type 0
Ends tagged line front says =
    (last : Tagged → List Tagged) (clients : Clients) (more : List ℕ) → clients.tagged ≡ tagged → script_from last clients 0 line (front ++ more) ≡ grown (length front) (led_on last clients says more)

-- Of what was ahead of the reader, a part of a line was taken.
pub record TookPart (line : List ℕ) (old : Reader) (left : Option (List ℕ)) (new : Reader) (later : Option (List ℕ)) : Type 0 where
  pub front : List ℕ
  pub ahead : before old.unread left ≡ before front (before new.unread later)
  pub tagged : new.tagged ≡ old.tagged
  pub used : new.used ≡ old.used + length front
  pub feeds : Feeds line front new.line

-- The rest of a line was taken, with its line feed.
pub record TookLine (line : List ℕ) (old : Reader) (left : Option (List ℕ)) (says : Line) (new : Reader) (later : Option (List ℕ)) : Type 0 where
  pub front : List ℕ
  pub ahead : before old.unread left ≡ before front (before new.unread later)
  pub tagged : new.tagged ≡ old.tagged
  pub used : new.used ≡ old.used + length front
  pub ends : Ends old.tagged line front says

-- The end of the input ended the line.
pub record TookLast (old : Reader) (left : Option (List ℕ)) (new : Reader) (later : Option (List ℕ)) : Type 0 where
  pub part : TookPart [] old left new later
  pub all : new.unread ≡ []
  pub end : Tells later []

-- The same, with what the line says.
pub record SaysLast (old : Reader) (left : Option (List ℕ)) (line : Line) (new : Reader) (later : Option (List ℕ)) : Type 0 where
  pub took : TookLast old left new later
  pub says : line ≡ line_of new.tagged new.line

-- As many bytes were taken as a script may have, and there are more.
pub record IsFull (reader : Reader) : Type 0 where
  pub full : reader.used ≡ longest_script
  pub more : 0 < length reader.unread

-- What is known if no line was read.
abbrev pub Stuck : ReadError → Reader → Option (List ℕ) → Reader → Option (List ℕ) → Type 0
Stuck Failed old left new later = TookPart [] old left new later × (new.unread ≡ [])
Stuck TooLong old left new later = TookPart [] old left new later × IsFull new
Stuck Memory old left new later = ⊤
