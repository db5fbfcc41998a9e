-- The arguments of a command: which is the first that is missing, not closed or not of its form (this project's own).
use Rattle.std.specs.Prelude.{ℕ, ◌+◌, nat_le, if◌then◌else◌, List, length, slice_get, Option, option_and_then, ok_or, Result, Ok, Err}
use Rattle.cell_core.specs.Steps.{◌>>=◌}
use Rattle.script_text.specs.declared.fault.ScriptFault.{ScriptFault}
use Rattle.script_text.specs.declared.fault.ScriptFault.TheVariants.{Argument, Extra}
use Rattle.script_text.specs.Words.{Word}

-- The text of word n; none if the word is missing or not closed.
abbrev pub text_at : List Word → ℕ → Option (List ℕ)
text_at words n = option_and_then (λ word. word) (slice_get words n)

-- What argument n stands for, by its form.
abbrev pub argument : {A : Type 0} → ℕ → (List ℕ → Option A) → List Word → Result A ScriptFault
argument n form words = ok_or (option_and_then form (text_at words n)) (Argument n)

-- No word, closed or not, follows n arguments.
abbrev pub no_more : ℕ → List Word → Result (Unit {0}) ScriptFault
no_more n words = if nat_le (length words) (n + 1) then Ok tt else Err Extra

-- Argument n, and no more.
unfoldable pub last_argument : {A : Type 0} → ℕ → (List ℕ → Option A) → List Word → Result A ScriptFault
last_argument n form words = do
  x ← argument n form words
  done ← no_more n words
  Ok x

-- Two arguments or three, and no more.
unfoldable pub two : {A B : Type 0} → (List ℕ → Option A) → (List ℕ → Option B) → List Word → Result (A × B) ScriptFault
two first second words = do
  x ← argument 1 first words
  y ← last_argument 2 second words
  Ok (x, y)

unfoldable pub three : {A B C : Type 0} → (List ℕ → Option A) → (List ℕ → Option B) → (List ℕ → Option C) → List Word
    → Result (A × B × C) ScriptFault
three first second third words = do
  x ← argument 1 first words
  y ← argument 2 second words
  z ← last_argument 3 third words
  Ok (x, y, z)
