-- A place among the keys is a place among the names that they are.
use Rattle.cross_table.proofs.Steps.{name_found, name_missed}
use Rattle.cross_table.proofs.names.Names.find.Goals as goal

pub returns-in-None : goal.returns-in-None
returns-in-None c = name_missed (λ v. v.items) c.self.inside.names.keys c.args.self.now c.args.name.now c.self.view_is c.in-None.ensures.index

pub returns-in-Some : goal.returns-in-Some
returns-in-Some c = name_found (λ v. v.items) c.self.inside.names.keys c.args.self.now c.args.name.now c.in-Some.place c.self.view_is c.in-Some.ensures.index
