-- When an error of the reader may come (this project's own).
use Rattle.std.specs.Prelude.{ℕ, ⊤}
use Rattle.base_files.specs.Counters.{Rose}
use Rattle.pgn_read.specs.declared.error.PgnError.{PgnError}
use Rattle.pgn_read.specs.declared.error.PgnError.TheVariants.{Failed, Memory}

-- The cause of an error, if the source's count of faults went from `old` to `new`: a fault was counted; want of memory is free.
abbrev pub HasCause : PgnError → ℕ → ℕ → Type 0
HasCause Failed old new = Rose old new
HasCause Memory old new = ⊤
