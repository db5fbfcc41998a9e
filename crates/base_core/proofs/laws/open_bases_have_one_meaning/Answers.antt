use Rattle.base_core.proofs.OneBase.{represents-one}
use Rattle.base_core.proofs.OpenLaws.{opened_meant}
use Rattle.base_core.proofs.laws.open_bases_have_one_meaning.Goals as goal

pub returns : goal.returns
returns c = record { one_base = represents-one; meant = opened_meant }
