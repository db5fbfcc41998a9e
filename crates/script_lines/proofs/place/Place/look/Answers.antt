use Rattle.script_lines.proofs.PlaceLaws.{body_seen}
use Rattle.script_lines.proofs.place.Place.look.Goals as goal

pub returns-in-Body-clause-says : goal.returns-in-Body-clause-says
returns-in-Body-clause-says g c = body_seen c.looks.self (g.S.Source.left c.looks.input) c.in-Body.ensures.says
