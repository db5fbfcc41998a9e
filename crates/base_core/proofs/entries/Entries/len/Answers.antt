use Rattle.std.proofs.Common.{sym, ap, ◌∙◌, length, List}
use Rattle.index_entry.specs.declared.entry.Entry.{Entry}
use Rattle.base_core.proofs.PackLaws.{entries-length}
use Rattle.base_core.proofs.entries.Entries.len.Goals as goal

pub returns : goal.returns
returns c = record { len = sym (entries-length _ _) ∙ ap (λ (xs : List Entry). length xs) c.self.view_is }
