use Rattle.shell_commands.proofs.ShownLaws.{found_serves}
use Rattle.shell_commands.proofs.searches.write_found.Goals as goal

pub returns-in-Find-clause-serves : goal.returns-in-Find-clause-serves
returns-in-Find-clause-serves g c = λ w seen s text.
    rw c.in-Find.is (λ st. found_serves c.hits.result c.hits.new.machine seen s c.in-Find.field-0 c.in-Find.field-1 _ _ (c.hits.ensures.serves seen _ st))
