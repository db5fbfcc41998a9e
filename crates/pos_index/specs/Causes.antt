-- Why an index was not built (this project's own).
use Rattle.std.specs.Prelude.{ℕ, List, Option, ⊤}
use Rattle.base_files.specs.declared.extent.Extent.{Extent}
use Rattle.sig_index.specs.Games.{HasFetchCause}
use Rattle.sig_index.specs.declared.signature.Sig.{Sig}
use Rattle.pos_index.specs.declared.fault.BuildError.{BuildError}
use Rattle.pos_index.specs.declared.fault.BuildError.TheVariants.{Fetch, Memory}

-- The cause of an error, if the files tell `told` of the games file and their count of faults went from `old` to `new`: that of a
-- record which was not read; want of memory is free.
abbrev pub HasBuildCause : BuildError → List Sig → List Extent → Option (List ℕ) → List ℕ → ℕ → ℕ → Type 0
HasBuildCause (Fetch error) sigs extents told buffer old new = HasFetchCause error sigs extents told buffer old new
HasBuildCause Memory sigs extents told buffer old new = ⊤
