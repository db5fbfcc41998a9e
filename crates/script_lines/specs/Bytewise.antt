-- A script byte by byte, as a reader meets it: what these bytes say behind a line so far (this project's own). It says
-- what the lines of Script do, by a law.
use Rattle.std.specs.Prelude.{ℕ, zero, suc, ◌+◌, ◌==◌, true, if◌then◌else◌, List, [], ◌∷◌, ◌++◌, length, Option, Some, None}
use Rattle.script_text.specs.Tasks.{body_word}
use Rattle.script_lines.specs.Bodies.{Body, body_of}
use Rattle.script_lines.specs.Clients.{Clients, Tagged, heard, is_end, line_of, tagged_task}
use Rattle.script_lines.specs.Script.{Script, led_by, script}
use Rattle.script_lines.specs.declared.line.Line.{Line}

-- A command with its body, which a line ends or the end of the bytes. `later` says what stands so many bytes behind the command's line, and
-- `last` which tasks the one is that the end of the bytes ends.
abbrev pub with_body : (Tagged → List Tagged) → Line → Body → ℕ → (ℕ → Script) → Script
with_body last line b size later = elim b.end [
  | Some count ↦ led_by (tagged_task line b.bytes) (later (length b.bytes + count))
  | None ↦ script (last (tagged_task line b.bytes)) size
]

-- A line with its body, if it has one.
abbrev pub with_word : (Tagged → List Tagged) → Line → Option (List ℕ) → List ℕ → (ℕ → Script) → Script
with_word last line (Some word) bytes later = with_body last line (body_of word true bytes) (length bytes) later
with_word last line None bytes later = led_by (tagged_task line []) (later 0)

-- A line that a line feed ends, and the bytes behind it: nothing comes behind the line that ends the script.
abbrev pub behind_line : (Tagged → List Tagged) → Clients → Line → List ℕ → (ℕ → Script) → Script
behind_line last clients line bytes later =
    if is_end clients line then script (tagged_task line [] ∷ []) 0 else with_word last line (body_word line.order) bytes later

-- One byte more.
abbrev pub with_byte : Script → Script
with_byte s = script s.tasks (s.size + 1)

-- What these bytes say to these clients behind a line so far, without the first ones, which were read.
unfoldable pub script_from : (Tagged → List Tagged) → Clients → ℕ → List ℕ → List ℕ → Script
script_from last clients read line [] = script (last (tagged_task (line_of clients.tagged line) [])) 0
script_from last clients (suc read) line (byte ∷ bytes) = with_byte (script_from last clients read line bytes)
script_from last clients zero line (byte ∷ bytes) =
    with_byte (
    if byte == 10
    then behind_line last clients (line_of clients.tagged line) bytes (λ n. script_from last (heard clients (line_of clients.tagged line)) n [] bytes)
    else script_from last clients zero (line ++ byte ∷ []) bytes
    )
