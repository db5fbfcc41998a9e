-- Why a part of a command ends early. This project's own.
use Rattle.std.specs.Prelude.{⊤, ℕ, List, Option, Result, Ok, Err, ◌≡◌, ◌⊎◌}
use Rattle.std.specs.Result.{result_map_both}
use Rattle.base_core.specs.declared.fault.EditError.{EditError}
use Rattle.base_core.specs.declared.fault.EditError.TheVariants as edit
use Rattle.base_files.specs.declared.faults.Stop.TheVariants as stop
use Rattle.sig_index.specs.declared.games.FetchError.{FetchError}
use Rattle.sig_index.specs.declared.games.FetchError.TheVariants as fetch
use Rattle.shell_state.specs.Refusing.{refusal_line}
use Rattle.shell_state.specs.declared.refusing.Refusal.{Refusal}
use Rattle.shell_state.specs.declared.refusing.Refusal.TheVariants.{TooLong, Full}
use Rattle.shell_state.specs.declared.halt.Halt.{Halt}
use Rattle.shell_state.specs.declared.halt.Halt.TheVariants as halt

-- A search of games that are told ends early by the files or by memory alone.
abbrev pub IsDevice : Halt → Type 0
IsDevice (halt.Device stop.Files) = ⊤
IsDevice (halt.Device stop.Memory) = ⊤
IsDevice _ = ⊥

-- A write ends early by the output or by memory alone.
abbrev pub IsOutput : Halt → Type 0
IsOutput (halt.Device stop.Write) = ⊤
IsOutput (halt.Device stop.Memory) = ⊤
IsOutput _ = ⊥

-- A command that reads and writes games ends early by the files, by the output or by memory alone.
abbrev pub IsFault : Halt → Type 0
IsFault (halt.Device stop.Files) = ⊤
IsFault (halt.Device stop.Write) = ⊤
IsFault (halt.Device stop.Memory) = ⊤
IsFault _ = ⊥

-- An error of reading a game that is there.
abbrev pub HasGame : EditError → Type 0
HasGame (edit.NoGame game) = ⊥
HasGame (edit.TooLong size) = ⊥
HasGame (edit.Full what) = ⊥
HasGame _ = ⊤

-- How a command ends that reads it.
abbrev pub halt_of : EditError → Halt
halt_of edit.Failed = halt.Device stop.Files
halt_of edit.Memory = halt.Device stop.Memory
halt_of (edit.Changed game kept found) = halt.Changed game kept found
halt_of (edit.NoGame game) = halt.Device stop.Memory
halt_of (edit.TooLong size) = halt.Device stop.Memory
halt_of (edit.Full what) = halt.Device stop.Memory

-- How a command ends whose game could not be fetched.
abbrev pub halt_of_fetch : FetchError → Halt
halt_of_fetch fetch.Failed = halt.Device stop.Files
halt_of_fetch (fetch.Changed game kept found) = halt.Changed game kept found

-- An error of editing a game that is there.
abbrev pub IsThere : EditError → Type 0
IsThere (edit.NoGame game) = ⊥
IsThere _ = ⊤

-- Why the edit of such a game is refused, or how its command ends early.
abbrev pub refused_edit : EditError → Result Refusal Halt
refused_edit (edit.TooLong size) = Ok TooLong
refused_edit (edit.Full what) = Ok (Full what)
refused_edit error = Err (halt_of error)

-- The error line for it, or how the command ends early.
abbrev pub refused_line : EditError → Result (List ℕ) Halt
refused_line error = result_map_both refusal_line (λ halt. halt) (refused_edit error)

-- So it ended, or memory ran out.
abbrev pub EndsAs : Result (List ℕ) Halt → Halt → Type 0
EndsAs ends e = (e ≡ halt.Device stop.Memory) ⊎ (ends ≡ Err e)

-- Nothing was written if the files failed.
abbrev pub Unsaid : Halt → Option (List ℕ) → Option (List ℕ) → Type 0
Unsaid e told told' = e ≡ halt.Device stop.Files → told' ≡ told

-- What takes a body in ends early by the input, the output, the files or memory alone.
abbrev pub IsBodyFault : Halt → Type 0
IsBodyFault (halt.Device stop) = ⊤
IsBodyFault (halt.Changed game kept found) = ⊥
