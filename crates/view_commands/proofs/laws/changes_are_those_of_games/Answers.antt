use Rattle.view_commands.proofs.ChangeLaws.{few_grown, few_renumbered}
use Rattle.view_commands.proofs.laws.changes_are_those_of_games.Goals as goal

pub returns : goal.returns
returns c = record { grown = few_grown; renumbered = few_renumbered }
