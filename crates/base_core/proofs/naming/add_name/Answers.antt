use Rattle.std.proofs.Common.{◌≡◌, ◌<◌, List, ℕ, Some, OnOk, IfOk, IfErr, length, slice_get, sym, subst}
use Rattle.name_base.specs.NameLists.{IsName, limit_of, of_kind, with_kind, with_name}
use Rattle.base_core.specs.Placing.{IfFull, names_of}
use Rattle.base_core.proofs.NamingLaws.{base-name}
use Rattle.base_core.proofs.naming.add_name.Goals as goal

pub add_bytes-requires-clause-name : goal.add_bytes-requires-clause-name
add_bytes-requires-clause-name c = subst (λ (n : List ℕ). IsName n) (sym c.as_bytes.ensures.bytes) (base-name c.args.name.now c.requires.name)

pub returns-clause-names : goal.returns-clause-names
returns-clause-names c =
    subst (λ (n : List ℕ). OnOk c.add_bytes.result (c.add_bytes.new.names ≡ with_kind c.args.kind c.args.names.now (with_name (of_kind c.args.kind c.args.names.now) n))) c.as_bytes.ensures.bytes c.add_bytes.ensures.names

pub returns-clause-id : goal.returns-clause-id
returns-clause-id c =
    subst (λ (n : List ℕ). IfOk c.add_bytes.result (λ id. slice_get (of_kind c.args.kind c.add_bytes.new.names) id ≡ Some n)) c.as_bytes.ensures.bytes c.add_bytes.ensures.id

pub returns-clause-why : goal.returns-clause-why
returns-clause-why c =
    subst (λ (n : List ℕ). IfErr c.add_bytes.result (IfFull (λ what. (what ≡ names_of c.args.kind) × (limit_of c.args.kind < length (with_name (of_kind c.args.kind c.args.names.now) n))))) c.as_bytes.ensures.bytes c.add_bytes.ensures.why
