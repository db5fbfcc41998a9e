-- A line of a script with what stands behind it. This project's own.
use Rattle.std.specs.Prelude.{ℕ, List, Option, Some, None, Result, Ok}
use Rattle.script_text.specs.declared.command.Command.{Command}
use Rattle.script_text.specs.declared.command.Command.TheVariants.{Import, Replace, Eco}
use Rattle.script_text.specs.declared.fault.ScriptFault.{ScriptFault}

-- The command that a line says, or its first fault.
abbrev pub Order : Type 0
Order = Result Command ScriptFault

-- That, and the body of the command: no bytes if it has none.
pub record Task : Type 0 where
  pub order : Order
  pub body : List ℕ

abbrev pub task : Order → List ℕ → Task
task order body = record { order = order; body = body }

-- The word that ends the body of a line's command, if it has one; behind a faulty line no body is read.
abbrev pub body_word : Order → Option (List ℕ)
body_word (Ok (Import word)) = Some word
body_word (Ok (Replace game word)) = Some word
body_word (Ok (Eco word)) = Some word
body_word _ = None
