-- What was read of a source (this project's own).
use Rattle.std.specs.Prelude.{ℕ, ◌<◌, List, length, ⊤, Option, None, Some, Result, Ok, Err}
use Rattle.base_files.specs.declared.faults.DeviceError.{DeviceError}
use Rattle.base_files.specs.declared.reading.Input.{Input}
use Rattle.base_files.specs.declared.reading.Input.TheVariants.{Whole, TooLong}

-- What is told has more bytes than `limit`.
abbrev pub MoreThan : ℕ → Option (List ℕ) → Type 0
MoreThan limit None = ⊤
MoreThan limit (Some told) = limit < length told

-- The fact about the bytes, if the whole input was read.
abbrev pub IfWhole : Result Input DeviceError → (List ℕ → Type 0) → Type 0
IfWhole (Ok (Whole bytes)) fact = fact bytes.items
IfWhole (Ok TooLong) fact = ⊤
IfWhole (Err error) fact = ⊤

-- The fact, if the input has more bytes than the limit.
abbrev pub IfTooLong : Result Input DeviceError → Type 0 → Type 0
IfTooLong (Ok (Whole bytes)) fact = ⊤
IfTooLong (Ok TooLong) fact = fact
IfTooLong (Err error) fact = ⊤
