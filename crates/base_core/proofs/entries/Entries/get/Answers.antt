use Rattle.std.proofs.Common.{◌≡◌, Some, sym, ap, ◌∙◌}
use Rattle.index_entry.specs.Entry.{entry_in}
use Rattle.index_entry.specs.declared.entry.Entry.{Entry}
use Rattle.base_core.proofs.CheckLaws.{read_is}
use Rattle.base_core.proofs.entries.Entries.get.Goals as goal

pub returns : goal.returns
returns c =
    let is : entry_in c.packed.result.now ≡ c.in-Ok.entry = read_is c.packed.result.now c.in-Ok.entry (sym c.in-Ok.ensures.exact) in
    record { at = c.packed.ensures.at ∙ ap (λ (e : Entry). Some e) is }
