-- Why the twins of a base are not known (this project's own).
use Rattle.std.specs.Prelude.{ℕ, List, Option, ⊤}
use Rattle.base_files.specs.declared.extent.Extent.{Extent}
use Rattle.sig_index.specs.Games.{HasFetchCause}
use Rattle.sig_index.specs.declared.signature.Sig.{Sig}
use Rattle.twin_games.specs.declared.fault.TwinError.{TwinError}
use Rattle.twin_games.specs.declared.fault.TwinError.TheVariants.{Fetch, Memory}

-- The cause of an error, if the files tell `told` of the games file and their count of faults went from `old` to `new`: that of a
-- record which was not read; want of memory is free.
abbrev pub HasTwinCause : TwinError → List Sig → List Extent → Option (List ℕ) → List ℕ → ℕ → ℕ → Type 0
HasTwinCause (Fetch error) sigs extents told buffer old new = HasFetchCause error sigs extents told buffer old new
HasTwinCause Memory sigs extents told buffer old new = ⊤
