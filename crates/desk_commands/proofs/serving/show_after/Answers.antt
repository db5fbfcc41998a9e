use Rattle.desk_commands.proofs.serving.show_after.Goals as goal

pub returns-then-is_seen-clause-shown : goal.returns-then-is_seen-clause-shown
returns-then-is_seen-clause-shown g c = λ seen d later is st is_later right. c.show_all.ensures.shown seen d later st is_later right

pub returns-then-is_seen-clause-left : goal.returns-then-is_seen-clause-left
returns-then-is_seen-clause-left g c = λ seen d later is st is_later. c.show_all.ensures.left seen d later st is_later
