-- A name that is there changes nothing; a new one is the last of the keys and of the names.
use Rattle.std.proofs.Common.{◌≡◌, None, position, sym, rules}
use Rattle.std.specs.Str.{bytes_eq}
use Rattle.cross_table.proofs.Steps.{names_added, place-last, placed, with_name-there}
use Rattle.cross_table.proofs.names.Names.add.Goals as goal

pub returns-in-Some-clause-place : goal.returns-in-Some-clause-place
returns-in-Some-clause-place c = placed c.args.self.now c.args.name.now c.in-Some.place c.in-Some.ensures

pub returns-in-Some-clause-names : goal.returns-in-Some-clause-names
returns-in-Some-clause-names c = with_name-there c.args.self.now c.args.name.now c.in-Some.place c.in-Some.ensures

pub returns-clause-place : goal.returns-clause-place
returns-clause-place c =
    let none : position (bytes_eq c.args.name.now) c.args.self.now ≡ None = search rules in
    place-last c.args.self.now c.args.name.now c.len-place.result (sym none) (sym c.len-place.ensures)

pub returns-clause-names : goal.returns-clause-names
returns-clause-names c = names_added (λ v. v.items) _ _ _ _ _ c.self.view_is c.in_ok-from_slice.ensures.items c.in_ok-insert.ensures.keys
