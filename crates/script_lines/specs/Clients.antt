-- What a line of a script says, who says it, and when the last client has ended. A script has one client, whose lines stand as they are, or it is
-- said at a desk of four, where each line begins with its client: `@0 `, `@1 `, `@2 ` or `@3 `. This project's own.
use Rattle.std.specs.Prelude.{ℕ, ◌-◌, ◌==◌, nat_le, nat_lt, Bool, true, false, ◌&&◌, not, if◌then◌else◌, List, [], ◌∷◌, drop, slice_get, slice_set, unwrap_or, Option, Some, None, is_some, option_map, Ok, Err}
use Rattle.std.specs.List.{list_all}
use Rattle.script_text.specs.Reading.{reading}
use Rattle.script_text.specs.declared.command.Command.TheVariants.{Nothing, Quit}
use Rattle.script_text.specs.declared.fault.ScriptFault.TheVariants.{Unknown}
use Rattle.script_text.specs.Tasks.{Order, Task, task}
use Rattle.script_lines.specs.declared.line.Line.{Line}

-- Whether a line says `quit`.
abbrev pub is_quit : Order → Bool
is_quit (Ok Quit) = true
is_quit _ = false

-- ---- what a line says

-- A line, by the client who says it, if one does, and what it says.
abbrev pub said : Option ℕ → Order → Line
said client order = record { client = client; order = order }

-- The client that the first three bytes of a line name: `@`, its digit, which is one from 0 to 3, and a space.
unfoldable pub named : List ℕ → Option ℕ
named (sign ∷ digit ∷ blank ∷ line) = if (sign == 64) && (blank == 32) && nat_le 48 digit && nat_lt digit 52 then Some (digit - 48) else None
named _ = None

-- What a line says that no client says, by how it reads alone: nothing if it has no word or is a remark, and else no known command.
abbrev pub unclaimed : Order → Order
unclaimed (Ok Nothing) = Ok Nothing
unclaimed _ = Err Unknown

-- A line at a desk. The bytes that name its client are not counted.
abbrev pub desk_line : Option ℕ → List ℕ → Line
desk_line (Some client) line = said (Some client) (reading (drop 3 line))
desk_line None line = said None (unclaimed (reading line))

-- What a line says: at a desk, or of the one client.
unfoldable pub line_of : Bool → List ℕ → Line
line_of tagged line = if tagged then desk_line (named line) line else said (Some 0) (reading line)

-- A line with the body that stands behind it.
pub record Tagged : Type 0 where
  pub client : Option ℕ
  pub task : Task

abbrev pub tagged_task : Line → List ℕ → Tagged
tagged_task line body = record { client = line.client; task = task line.order body }

-- ---- the clients of a script

-- Whether lines name their clients, and which of the four have ended. The one client of lines that name none is the first; the others have
-- ended from the beginning.
pub record Clients : Type 0 where
  pub tagged : Bool
  pub ended : List Bool

abbrev pub new_clients : Bool → Clients
new_clients desk = record { tagged = desk; ended = false ∷ not desk ∷ not desk ∷ not desk ∷ [] }

abbrev pub has_ended : Clients → ℕ → Bool
has_ended clients client = unwrap_or (slice_get clients.ended client) true

-- The client that ends with a line, which is `quit`.
abbrev pub leaver : Line → Option ℕ
leaver line = if is_quit line.order then line.client else None

unfoldable pub ended_by : List Bool → Line → List Bool
ended_by ended line = unwrap_or (option_map (λ client. slice_set ended client true) (leaver line)) ended

-- The clients behind a line.
abbrev pub heard : Clients → Line → Clients
heard clients line = record { tagged = clients.tagged; ended = ended_by clients.ended line }

-- Whether a line ends the script: a client ends with it, and all of them have.
unfoldable pub is_end : Clients → Line → Bool
is_end clients line = is_some (leaver line) && list_all (λ ended. ended) (ended_by clients.ended line)
