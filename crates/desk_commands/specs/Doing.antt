-- What a line does before the clients hear it. Only private functions cite this.
use Rattle.std.specs.Fmt.{decimal}
use Rattle.std.specs.Prelude.{◌≡◌, ℕ, ◌+◌, ◌++◌, if◌then◌else◌, codes, length, List, Result, Ok, Err, Some}
use Rattle.base_core.specs.Represents.{Kept}
use Rattle.base_files.specs.declared.faults.Stop.{Stop}
use Rattle.command_runs.specs.Plain.{Plain}
use Rattle.compact_base.specs.Compacting.{numbering}
use Rattle.script_lines.specs.Clients.{Tagged}
use Rattle.script_text.specs.Tasks.{Order, Task}
use Rattle.script_text.specs.declared.command.Command.TheVariants.{Compact}
use Rattle.shell_commands.specs.Watching.{watches}
use Rattle.shell_state.specs.Slots.{slot_at}
use Rattle.shell_state.specs.declared.halt.Halt.{Halt}
use Rattle.shell_state.specs.declared.halt.Halt.TheVariants as halt
use Rattle.view_commands.specs.Views.{changes_of, slot_hits}
use Rattle.desk_commands.specs.Desk.{Desk, desk_by, desk_done, desk_text, seen_by, window_of}
use Rattle.desk_commands.specs.Views.{owner}
use Rattle.desk_commands.specs.declared.moving.Before.{Before}

-- The plain machine of a desk whose clients do not hear.
abbrev pub doings : Plain Desk Tagged
doings = record { after = λ desk t. desk_done desk t.client t.task; text = desk_text }

-- How many changes the line of a client who has not ended tells the view of a slot at most.
abbrev pub most_told_by : Desk → ℕ → Task → ℕ → ℕ
most_told_by d client t i =
    if watches (window_of d.clients client) t.order i
    then 1 + length (slot_hits (seen_by (desk_by d client t) (owner d.clients.tagged i)) (slot_at (desk_by d client t).slots i))
    else changes_of (seen_by d (owner d.clients.tagged i)) (seen_by (desk_by d client t) (owner d.clients.tagged i)) (slot_at d.slots i)

-- How a line ends: as its command, or as the write of the end of its text.
abbrev pub ended : {A : Type 0} → Result A Halt → Result A Stop → Result A Halt
ended (Err e) flushed = Err e
ended (Ok done) (Err stop) = Err (halt.Device stop)
ended (Ok done) (Ok flushed) = Ok flushed

-- The tag of a client.
abbrev pub client_tag : ℕ → List ℕ
client_tag client = codes "@" ++ decimal client ++ codes " "

-- What was noted of the games of a base before a line.
pub record IsNoted (kept : Kept) (order : Order) (noted : Before) : Type 0 where
  pub games : noted.games ≡ length kept.entries
  pub ends : noted.end ≡ kept.end
  pub numbers : order ≡ Ok Compact → noted.numbering ≡ Some (numbering kept.entries)
