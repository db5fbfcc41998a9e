-- How far the run of a script has come: only private functions cite it.
use Rattle.std.specs.Prelude.{◌≡◌, ◌≤◌, ◌<◌, ℕ, Bool, false, if◌then◌else◌, ⊤, ◌+◌, ◌-◌, List, [], ◌∷◌, ◌++◌, length, take, Option, Some, None, IfSome, MatchOption, Ok}
use Rattle.base_files.specs.Seen.{Seen}
use Rattle.base_files.specs.Told.{adds, before}
use Rattle.base_core.specs.Base.{Base}
use Rattle.base_core.specs.Opening.{IfTold, OpensAs, Refuses, is_created}
use Rattle.base_core.specs.Represents.{Mended}
use Rattle.base_core.specs.declared.fault.BaseFault.{BaseFault}
use Rattle.command_runs.specs.Counts.{Counts, NoneFell}
use Rattle.command_runs.specs.Endings.{Cut, Done}
use Rattle.command_runs.specs.Plain.{after_all, run}
use Rattle.command_runs.specs.Runs.{Stopped}
use Rattle.desk_commands.specs.Desk.{Desk, desk_begin, desks}
use Rattle.desk_commands.specs.Standing.{DeskHolding, DeskSound, DeskStands, line_price}
use Rattle.desk_commands.specs.Views.{line_told}
use Rattle.script_lines.specs.Bytewise.{script_from}
use Rattle.script_lines.specs.Clients.{Tagged, new_clients, said, tagged_task}
use Rattle.script_lines.specs.Reading.{Reader, grown, led_on}
use Rattle.script_lines.specs.Script.{Script, at_end, led_by, longest_script, piece_len, script}
use Rattle.script_lines.specs.declared.line.Line.{Line}
use Rattle.script_lines.specs.declared.place.At.{At}
use Rattle.script_lines.specs.declared.place.At.TheVariants.{Behind}
use Rattle.script_text.specs.declared.command.Command.TheVariants.{Quit}
use Rattle.shell_state.specs.Slots.{Slot}
use Rattle.shell_state.specs.Stands.{ShowNone}
use Rattle.shell_session.specs.Around.{Around, Lives, price_all, told_all, told_more}
use Rattle.shell_session.specs.Session.{Breaks, WhyStatus}
use Rattle.session_status.specs.declared.status.Status.{Status}
use Rattle.session_status.specs.declared.status.Status.TheVariants.{BadBase, ReadFault, WriteFault, FilesFault, Changed, InputTooLong, Memory}

-- A base was opened: the machine stands for the desk in which a script begins, beside what was told of a new games file.
pub record Opening (create strict desk : Bool) (index names games : List ℕ) (fresh : Option (List ℕ)) (held : DeskHolding) (seen : Seen) (mended : ℕ) : Type 0 where
  pub base : Base
  pub means : OpensAs create index names games base
  pub mends : Mended index base.games mended
  pub faultless : (fault : BaseFault) → Refuses create strict index names games fault → ⊥
  pub stands : (slots : List Slot) → ShowNone slots → DeskStands held seen (desk_begin desk (is_created create index names games) fresh slots base)

-- Opening ends with a fault of the files' contents, the files or memory.
abbrev pub OpeningRefused : Bool → Bool → Seen → Status → Type 0
OpeningRefused create strict seen (BadBase fault) = IfTold seen (λ index names games. Refuses create strict index names games fault)
OpeningRefused create strict seen FilesFault = ⊤
OpeningRefused create strict seen Memory = ⊤
OpeningRefused create strict seen _ = ⊥

-- These tasks, in so many bytes, before what is said behind them.
abbrev pub joined : List Tagged → ℕ → Script → Script
joined done count s = script (done ++ s.tasks) (count + s.size)

-- What these bytes say behind a line at a desk, to the end of the script, and as far as lines end with their line feed.
abbrev pub said_on : Desk → Line → List ℕ → Script
said_on d line bytes = led_on (at_end d.clients.tagged) d.clients line bytes

abbrev pub whole_on : Desk → Line → List ℕ → List Tagged
whole_on d line bytes = (led_on (λ _. []) d.clients line bytes).tasks

-- What the end of the input adds to the tasks: `quit` of the one client, and at a desk of four nothing.
abbrev pub added : Bool → List Tagged
added desk = if desk then [] else tagged_task (said (Some 0) (Ok Quit)) [] ∷ []

-- The statuses that end the run of a script before its end.
abbrev pub Interrupts : Status → Type 0
Interrupts ReadFault = ⊤
Interrupts WriteFault = ⊤
Interrupts FilesFault = ⊤
Interrupts (Changed game kept found) = ⊤
Interrupts InputTooLong = ⊤
Interrupts Memory = ⊤
Interrupts _ = ⊥

-- What each part of the run keeps to, which ended with this status or with none. Without one the machine is sound. No
-- file is changed if its lines may change none. No base is chosen, and no count of faults fell. The status ends a run,
-- and has its cause. It tells of a script that is too long only if more than the limit was read.
pub record Kept (writes : Bool) (held' : DeskHolding) (seen seen' : Seen) (old new : Counts) (budget budget' : ℕ) (ended : Option Status) : Type 0 where
  pub sound : MatchOption ended (DeskSound held' seen') (λ status. ⊤)
  pub unchanged : writes ≡ false → seen' ≡ seen
  pub choices : seen'.choices ≡ seen.choices
  pub counts : NoneFell old new
  pub ends : IfSome ended Interrupts
  pub why : IfSome ended (λ status. WhyStatus status old new)
  pub too_long : IfSome ended (λ status. status ≡ InputTooLong → budget' + longest_script < budget)

-- Some lines are done, and the reader stands behind the last of them.
pub record Ran (d₀ : Desk) (bytes : List ℕ) (t₀ : Option (List ℕ)) (held : DeskHolding) (around : Around) (reader : Reader) (l t : Option (List ℕ)) (a₀ a : ℕ) : Type 0 where
  pub done : List Tagged
  pub front : List ℕ
  pub stands : Lives held (told_more around (told_all d₀ done)) (after_all desks d₀ done)
  pub written : t ≡ adds t₀ (run desks d₀ done)
  pub left : Some bytes ≡ before front (before reader.unread l)
  pub tagged : reader.tagged ≡ d₀.clients.tagged
  pub used : reader.used ≡ length front
  pub says : (last : Tagged → List Tagged) (more : List ℕ)
      → script_from last (new_clients d₀.clients.tagged) 0 [] (front ++ more) ≡ joined done (length front) (script_from last (after_all desks d₀ done).clients 0 [] more)
  pub paid : a ≤ a₀ + price_all d₀ done

-- The statuses that may break off a line without its body: they say nothing of the bytes that were read.
abbrev pub InLine : Status → Type 0
InLine ReadFault = ⊥
InLine InputTooLong = ⊥
InLine _ = ⊤

-- A line was broken off: a front part of its text was written.
pub record Interrupted (status : Status) (around' : Around) (d : Desk) (next : Tagged) (t : Option (List ℕ)) (t' : Option (List ℕ)) : Type 0 where
  pub cut : Cut (Breaks status around' t' d next t) (desks.text d next) t t'
  pub in_line : InLine status

-- One of these tasks was.
pub record Stops (status : Status) (around' : Around) (d : Desk) (left : List Tagged) (t : Option (List ℕ)) (t' : Option (List ℕ)) : Type 0 where
  pub stopped : Stopped desks (Breaks status around' t') d left t t'
  pub in_line : InLine status

-- A reader goes on with lines of the same kind, if no less was taken, and each byte that was read is taken or unread.
pub record GoneOn (old : Reader) (budget : ℕ) (new : Reader) (budget' : ℕ) : Type 0 where
  pub tagged : new.tagged ≡ old.tagged
  pub sum : budget' + (new.used + length new.unread) ≡ budget + (old.used + length old.unread)
  pub later : old.used ≤ new.used

-- The reader behind a body that a line ended; none if the input did.
abbrev pub behind_at : At → Reader → Option Reader
behind_at (Behind line) reader = Some reader
behind_at _ reader = None

-- ---- behind a line that was taken: these bytes are ahead, and so many were taken

-- The line is done, and the script goes on behind its body.
pub record WentOn (line : Line) (d : Desk) (ahead : List ℕ) (used : ℕ) (held' : DeskHolding) (around' : Around) (reader' : Reader) (l' : Option (List ℕ)) (t t' : Option (List ℕ)) (a a' : ℕ) : Type 0 where
  pub body : List ℕ
  pub front : List ℕ
  pub did : Done (Lives held' (told_more around' (line_told d (tagged_task line body)))) (desks.after d (tagged_task line body)) (desks.text d (tagged_task line body)) t t'
  pub left : Some ahead ≡ before front (before reader'.unread l')
  pub taken : reader'.used ≡ used + length front
  pub says : (last : Tagged → List Tagged) (more : List ℕ)
      → led_on last d.clients line (front ++ more) ≡ grown (length front) (led_by (tagged_task line body) (script_from last (desks.after d (tagged_task line body)).clients 0 [] more))
  pub asks : a' ≤ a + line_price d line

-- The line is done, and the input ended its body.
pub record WentOut (line : Line) (d : Desk) (ahead : List ℕ) (used : ℕ) (held' : DeskHolding) (around' : Around) (l' : Option (List ℕ)) (t t' : Option (List ℕ)) (a a' : ℕ) : Type 0 where
  pub body : List ℕ
  pub did : Done (Lives held' (told_more around' (line_told d (tagged_task line body)))) (desks.after d (tagged_task line body)) (desks.text d (tagged_task line body)) t t'
  pub says : (last : Tagged → List Tagged) → led_on last d.clients line ahead ≡ script (last (tagged_task line body)) (length ahead)
  pub left : l' ≡ Some []
  pub within : used + length ahead ≤ longest_script
  pub asks : a' ≤ a + line_price d line

-- The script is at its end: its last tasks are done.
pub record Finished (line : Line) (d : Desk) (ahead : List ℕ) (used : ℕ) (held' : DeskHolding) (around' : Around) (l' : Option (List ℕ)) (t t' : Option (List ℕ)) (a a' : ℕ) : Type 0 where
  pub lasts : List Tagged
  pub size : ℕ
  pub front : List ℕ
  pub did : Done (Lives held' (told_more around' (told_all d lasts))) (after_all desks d lasts) (run desks d lasts) t t'
  pub says : said_on d line ahead ≡ script lasts size
  pub within : used + size ≤ longest_script
  pub left : Some ahead ≡ before front l'
  pub enough : size ≤ length front
  pub no_further : length front ≤ size + piece_len
  pub asks : a' ≤ a + price_all d lasts

-- A body was read, and the reader is given back if a line ended it; else the input did.
abbrev pub BodyDone : Line → Desk → List ℕ → ℕ → DeskHolding → Around → Option Reader → Option (List ℕ) → Option (List ℕ) → Option (List ℕ) → ℕ → ℕ → Type 0
BodyDone line d ahead used held' around' (Some reader') l' t t' a a' = WentOn line d ahead used held' around' reader' l' t t' a a'
BodyDone line d ahead used held' around' None l' t t' a a' = WentOut line d ahead used held' around' l' t t' a a'

-- A line is done, and the reader is given back if the script goes on.
abbrev pub LineDone : Line → Desk → List ℕ → ℕ → DeskHolding → Around → Option Reader → Option (List ℕ) → Option (List ℕ) → Option (List ℕ) → ℕ → ℕ → Type 0
LineDone line d ahead used held' around' (Some reader') l' t t' a a' = WentOn line d ahead used held' around' reader' l' t t' a a'
LineDone line d ahead used held' around' None l' t t' a a' = Finished line d ahead used held' around' l' t t' a a'

-- The tasks that are done behind the line are those whose lines, with those of their bodies, were read with their line feed, or end within
-- the greatest length of a script.
abbrev pub BehindDone : Status → Line → Desk → List ℕ → ℕ → Option (List ℕ) → List Tagged → Type 0
BehindDone ReadFault line d ahead used later done = (front : List ℕ) × (Some ahead ≡ before front later) × (done ≡ whole_on d line front)
BehindDone InputTooLong line d ahead used later done =
    (longest_script < used + (said_on d line ahead).size) × (done ≡ whole_on d line (take (longest_script - used) ahead))
BehindDone _ line d ahead used later done = ⊤

-- The run stopped behind the line.
pub record Halts (status : Status) (around' : Around) (line : Line) (d : Desk) (ahead : List ℕ) (used : ℕ) (l' : Option (List ℕ)) (t t' : Option (List ℕ)) (a a' : ℕ) : Type 0 where
  pub stopped : Stopped desks (Breaks status around' t') d (said_on d line ahead).tasks t t'
  pub lines : BehindDone status line d ahead used l' stopped.done
  pub asks : a' ≤ a + price_all d (said_on d line ahead).tasks

-- ---- the last line, behind which nothing is ahead

-- The tasks that are left then.
abbrev pub last_tasks : Desk → Line → List Tagged
last_tasks d line = at_end d.clients.tagged (tagged_task line [])

pub record LastDid (line : Line) (d : Desk) (held' : DeskHolding) (around' : Around) (l' : Option (List ℕ)) (t t' : Option (List ℕ)) : Type 0 where
  pub did : Done (Lives held' (told_more around' (told_all d (last_tasks d line)))) (after_all desks d (last_tasks d line)) (run desks d (last_tasks d line)) t t'
  pub left : l' ≡ Some []

-- No task is done if its body cannot be read to its end.
abbrev pub LastDone : Status → Option (List ℕ) → List Tagged → Type 0
LastDone ReadFault later done = (later ≡ Some []) × (done ≡ [])
LastDone InputTooLong later done = ⊥
LastDone _ later done = ⊤

pub record LastHalts (status : Status) (around' : Around) (line : Line) (d : Desk) (l' : Option (List ℕ)) (t t' : Option (List ℕ)) : Type 0 where
  pub stopped : Stopped desks (Breaks status around' t') d (last_tasks d line) t t'
  pub lines : LastDone status l' stopped.done
