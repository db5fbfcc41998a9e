use Rattle.std.proofs.Common.{◌≡◌, List, ℕ, Err, sym, ap, ◌∙◌, subst}
use Rattle.index_entry.specs.Index.{index_read}
use Rattle.name_base.specs.Reading.{Fails, names_at}
use Rattle.base_core.specs.FirstFault.{whole_read}
use Rattle.base_core.specs.Opening.{IfBad}
use Rattle.base_core.specs.declared.fault.OpenError.{OpenError}
use Rattle.base_core.proofs.OpenLaws.{index_fails, names_refuse}
use Rattle.base_core.proofs.opening.read_whole.Goals as goal

pub returns-in-Err-clause-fault : goal.returns-in-Err-clause-fault
returns-in-Err-clause-fault c =
    index_fails c.args.loaded.now.index.items c.args.loaded.now.names.items _ (sym (c.in-Err.ensures.exact ∙ ap index_read c.as_slice.ensures.value))

pub returns-in-Err-read_names-clause-fault : goal.returns-in-Err-read_names-clause-fault
returns-in-Err-read_names-clause-fault c =
    let B : OpenError → Type 0 = λ error. IfBad (λ fault. whole_read c.args.loaded.now.index.items c.args.loaded.now.names.items ≡ Err fault) error in
    let N : List ℕ → Type 0 = λ b. Fails c.in-Err-read_names.error (names_at b) in
    subst B (sym c.from.ensures)
    (names_refuse c.args.loaded.now.index.items c.args.loaded.now.names.items c.in-Ok.header c.in-Err-read_names.error (sym (c.in-Ok.ensures.exact ∙ ap index_read c.as_slice.ensures.value))
    (subst N c.as_slice-2.ensures.value c.in-Err-read_names.ensures.exact))
