use Rattle.index_commands.proofs.indexing.index.Goals as goal

pub returns-in-Some-clause-serves : goal.returns-in-Some-clause-serves
returns-in-Some-clause-serves g c = λ s st. rw c.in-Some.is (c.index_to.ensures.serves s st)

pub returns-in-None-clause-serves : goal.returns-in-None-clause-serves
returns-in-None-clause-serves g c = λ s st. rw c.in-None.is (c.drop_index.ensures.serves (g.F.Files.seen c.args.files.now) s st)
