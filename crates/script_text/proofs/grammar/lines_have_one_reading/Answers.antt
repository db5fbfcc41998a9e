use Rattle.script_text.proofs.GrammarLaws.{spelled_once}
use Rattle.script_text.proofs.grammar.lines_have_one_reading.Goals as goal

pub returns-clause-one : goal.returns-clause-one
returns-clause-one c = spelled_once
