-- What is asked for the record of one game.
use Rattle.std.proofs.Common.{◌≡◌, ◌<◌, ◌≤◌, ℕ, ◌+◌, List, length, Option, Some, sym, subst}
use Rattle.std.specs.Prelude.{slice_get}
use Rattle.base_core.proofs.Lists.{get_some}
use Rattle.base_files.specs.Counters.{raised}
use Rattle.index_entry.specs.declared.entry.Entry.{Entry}
use Rattle.shell_state.specs.Passing.{len_in}
use Rattle.shell_state.specs.Stands.{len_at}

-- What was asked for the record of one game.
pub asked_at : (entries : List Entry) (i old new : ℕ) → i < length entries → ((e : Entry) → slice_get entries i ≡ Some e → new ≤ old + e.len) → new ≤ old + len_at entries i
asked_at entries i old new below asks =
    let e = get_some entries i below in
    let P : Option Entry → Type 0 = λ o. new ≤ old + len_in (λ e. e.len) o in
    subst P (sym e.1) (asks e.0 e.1)

-- And at least so much.
pub least_at : (entries : List Entry) (i old new : ℕ) → i < length entries → ((e : Entry) → slice_get entries i ≡ Some e → raised old e.len ≤ new) → raised old (len_at entries i) ≤ new
least_at entries i old new below asked =
    let e = get_some entries i below in
    let P : Option Entry → Type 0 = λ o. raised old (len_in (λ e. e.len) o) ≤ new in
    subst P (sym e.1) (asked e.0 e.1)
