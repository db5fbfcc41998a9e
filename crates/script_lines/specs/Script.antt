-- A script as the list of its lines, each with the body that stands behind it. This project's own.
use Rattle.std.specs.Prelude.{ℕ, suc, ◌+◌, ◌==◌, Bool, ◌||◌, if◌then◌else◌, List, [], ◌∷◌, ◌++◌, length, Option, Some, None, Ok}
use Rattle.std.specs.Str.{bytes_eq}
use Rattle.script_text.specs.Reading.{shorn}
use Rattle.script_text.specs.declared.command.Command.TheVariants.{Quit}
use Rattle.script_text.specs.Tasks.{body_word, task}
use Rattle.script_lines.specs.Clients.{Clients, Tagged, heard, is_end, is_quit, line_of, new_clients, said, tagged_task}
use Rattle.script_lines.specs.declared.line.Line.{Line}

-- The tasks of a script, and how many bytes it has: up to and with the line that ends it, or all of them if none does.
pub record Script : Type 0 where
  pub tasks : List Tagged
  pub size : ℕ

abbrev pub script : List Tagged → ℕ → Script
script tasks size = record { tasks = tasks; size = size }

-- A task, and what comes behind it.
abbrev pub led_by : Tagged → Script → Script
led_by first behind = record behind { tasks = first ∷ behind.tasks }

-- The lines of bytes behind a line so far, without their line feeds: those that one ends, and the last one, which none ends; it may be empty.
unfoldable pub lines_from : List ℕ → List ℕ → List (List ℕ) × List ℕ
lines_from line [] = ([], line)
lines_from line (byte ∷ bytes) = if byte == 10 then (line ∷ (lines_from [] bytes).0, (lines_from [] bytes).1) else lines_from (line ++ byte ∷ []) bytes

-- More bytes of a body.
abbrev pub with_bytes : Tagged → List ℕ → Tagged
with_bytes t bytes = record { client = t.client; task = task t.task.order (t.task.body ++ bytes) }

-- A line in front of others.
abbrev pub with_line : List ℕ → Script → Script
with_line line s = record s { size = suc (length line) + s.size }

-- A task begins, and what comes behind it is said at a place. In a body, the place has its task with so much of it yet,
-- and the word up to which the lines are its own. Else it is between tasks.
abbrev pub begun : Tagged → Option (List ℕ) → (Option (Tagged × List ℕ) → Script) → Script
begun t None later = led_by t (later None)
begun t (Some word) later = later (Some (t, word))

-- A line between tasks, and what stands behind it, where the clients have heard it: nothing comes behind the line that ends the script.
abbrev pub on_line : Clients → Line → (Clients → Option (Tagged × List ℕ) → Script) → Script
on_line clients line later =
    if is_end clients line then record { tasks = tagged_task line [] ∷ []; size = 0 } else begun (tagged_task line []) (body_word line.order) (later (heard clients line))

-- What lines say to these clients from a place on, and an end that no line feed ends, with the tasks that the last one gives. A line that is
-- the word ends a body; its last carriage return is dropped for that alone.
unfoldable pub script_at : (Tagged → List Tagged) → List ℕ → Clients → Option (Tagged × List ℕ) → List (List ℕ) → Script
script_at last end clients None [] = record { tasks = last (tagged_task (line_of clients.tagged end) []); size = length end }
script_at last end clients (Some (t, word)) [] = record { tasks = last (if bytes_eq (shorn end) word then t else with_bytes t end); size = length end }
script_at last end clients None (line ∷ lines) =
    with_line line (on_line clients (line_of clients.tagged line) (λ later place. script_at last end later place lines))
script_at last end clients (Some (t, word)) (line ∷ lines) =
    with_line line
    (if bytes_eq (shorn line) word then led_by t (script_at last end clients None lines) else script_at last end clients (Some (with_bytes t (line ++ 10 ∷ []), word)) lines)

abbrev pub script_by : (Tagged → List Tagged) → Clients → List ℕ → Script
script_by last clients bytes = script_at last (lines_from [] bytes).1 clients None (lines_from [] bytes).0

-- The end of the input ends the last task. With one client, it stands for `quit` too, unless that task is `quit`; at a
-- desk it ends the last task alone.
abbrev pub at_end : Bool → Tagged → List Tagged
at_end desk last = if desk || is_quit last.task.order then last ∷ [] else last ∷ tagged_task (said (Some 0) (Ok Quit)) [] ∷ []

-- The tasks of a script, said at a desk or by one client: one a line, a faulty line too, up to the `quit` by which the last of them ends.
abbrev pub script_of : Bool → List ℕ → List Tagged
script_of desk bytes = (script_by (at_end desk) (new_clients desk) bytes).tasks

-- How many bytes a script has, up to and with the line of that `quit`.
abbrev pub script_len : Bool → List ℕ → ℕ
script_len desk bytes = (script_by (at_end desk) (new_clients desk) bytes).size

-- The tasks whose lines, with those of their bodies, end with a line feed within these bytes.
abbrev pub whole_lines : Bool → List ℕ → List Tagged
whole_lines desk bytes = (script_by (λ _. []) (new_clients desk) bytes).tasks

-- The most bytes that a script may have.
abbrev pub longest_script : ℕ
longest_script = 1073741824

-- The most bytes that are read at once.
abbrev pub piece_len : ℕ
piece_len = 32768
