use Rattle.std.proofs.Common.{◌≡◌, ◌<◌, List, ℕ, Option, Some, OnOk, IfOk, IfErr, [], length, slice_get, unwrap_or, sym, ap, subst}
use Rattle.name_base.specs.NameLists.{limit_of, of_kind, with_kind, with_name}
use Rattle.name_base.specs.PartNames.{filled_names}
use Rattle.base_core.specs.Entries.{name_at}
use Rattle.base_core.specs.Placing.{IfFull, names_of}
use Rattle.base_core.proofs.taking.take_one.Goals as goal

pub returns-clause-names : goal.returns-clause-names
returns-clause-names c =
    let same : c.name_of.result.now ≡ name_at (of_kind c.args.kind (filled_names c.args.of.now)) c.args.id = sym (ap (λ (o : Option (List ℕ)). unwrap_or o []) c.name_of.ensures.name) in
    subst (λ (n : List ℕ). OnOk c.add_bytes.result (c.add_bytes.new.names ≡ with_kind c.args.kind c.args.names.now (with_name (of_kind c.args.kind c.args.names.now) n))) same c.add_bytes.ensures.names

pub returns-clause-id : goal.returns-clause-id
returns-clause-id c =
    let same : c.name_of.result.now ≡ name_at (of_kind c.args.kind (filled_names c.args.of.now)) c.args.id = sym (ap (λ (o : Option (List ℕ)). unwrap_or o []) c.name_of.ensures.name) in
    subst (λ (n : List ℕ). IfOk c.add_bytes.result (λ id. slice_get (of_kind c.args.kind c.add_bytes.new.names) id ≡ Some n)) same c.add_bytes.ensures.id

pub returns-clause-why : goal.returns-clause-why
returns-clause-why c =
    let same : c.name_of.result.now ≡ name_at (of_kind c.args.kind (filled_names c.args.of.now)) c.args.id = sym (ap (λ (o : Option (List ℕ)). unwrap_or o []) c.name_of.ensures.name) in
    subst (λ (n : List ℕ). IfErr c.add_bytes.result (IfFull (λ what. (what ≡ names_of c.args.kind) × (limit_of c.args.kind < length (with_name (of_kind c.args.kind c.args.names.now) n))))) same c.add_bytes.ensures.why
