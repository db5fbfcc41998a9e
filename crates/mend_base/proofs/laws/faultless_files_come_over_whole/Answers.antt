use Rattle.mend_base.proofs.WholeLaws.{comes-over}
use Rattle.mend_base.proofs.laws.faultless_files_come_over_whole.Goals as goal

pub returns : goal.returns
returns c = record { whole = λ strict faulty none. comes-over strict faulty c.args.index.now c.args.names.now c.args.games.now (c.files_mean_a_base_or_have_a_fault.ensures.one_of_both strict) none }
