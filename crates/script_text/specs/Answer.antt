-- What a call answers that may run out of memory (this project's own).
use Rattle.std.specs.Prelude.{◌≡◌, Result, Ok, Err}
use Rattle.script_text.specs.declared.fault.ScriptFault.{ScriptFault}
use Rattle.script_text.specs.declared.fault.CommandError.{CommandError}
use Rattle.script_text.specs.declared.fault.CommandError.TheVariants.{Bad, Memory}

-- The error is the fault that reading gives, or want of memory.
abbrev pub Fails : {A : Type 0} → CommandError → Result A ScriptFault → Type 0
Fails Memory read = Unit {0}
Fails (Bad fault) read = read ≡ Err fault

-- What a call answered is what reading gives, unless memory ran out.
abbrev pub Answers : {A : Type 0} → Result A CommandError → Result A ScriptFault → Type 0
Answers (Ok x) read = read ≡ Ok x
Answers (Err e) read = Fails e read
