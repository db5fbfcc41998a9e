use Rattle.std.proofs.Common.{ap, ◌∙◌, List, ℕ}
use Rattle.base_core.specs.Packing.{entries_in}
use Rattle.base_core.proofs.PackLaws.{no-entries}
use Rattle.base_core.proofs.entries.Entries.new.Goals as goal

pub returns : goal.returns
returns c = record { none = ap (λ (b : List ℕ). entries_in b 0) c.new.ensures.items ∙ no-entries }
