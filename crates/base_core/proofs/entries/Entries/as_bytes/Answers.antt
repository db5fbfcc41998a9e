use Rattle.std.proofs.Common.{List, ℕ, sym, subst}
use Rattle.index_entry.specs.declared.entry.Entry.{Entry}
use Rattle.base_core.specs.Packing.{AreWritten}
use Rattle.base_core.proofs.PackLaws.{are-written}
use Rattle.base_core.proofs.entries.Entries.as_bytes.Goals as goal

pub returns : goal.returns
returns c =
    let B : List ℕ → Type 0 = λ b. AreWritten b c.args.self.now in
    let V : List Entry → Type 0 = λ es. AreWritten c.self.inside.bytes.items es in
    record { written = subst B (sym c.as_slice.ensures.value) (subst V c.self.view_is (are-written c.self.inside.bytes.items c.self.inside.count c.self.invariant)) }
