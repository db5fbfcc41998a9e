use Rattle.shell_commands.proofs.RefusedLaws.{imported, imported_none, made, made_none, refused}
use Rattle.shell_commands.proofs.laws.refused_tasks_change_nothing.Goals as goal

pub returns-clause-refused : goal.returns-clause-refused
returns-clause-refused c = λ w s t few is imports makes. refused w s t few is imports makes

pub returns-clause-imported : goal.returns-clause-imported
returns-clause-imported c = λ w s word body. imported w s word body

pub returns-clause-made : goal.returns-clause-made
returns-clause-made c = λ w s seed games body. made w s seed games body

pub returns-clause-imported_none : goal.returns-clause-imported_none
returns-clause-imported_none c = λ w s word body same. imported_none w s word body same

pub returns-clause-made_none : goal.returns-clause-made_none
returns-clause-made_none c = λ w s seed games body is same. made_none w s seed games body is same
