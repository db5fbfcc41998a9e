-- The law on lists.
use Rattle.name_base.proofs.OneTextLemmas.{one_text}
use Rattle.name_base.proofs.round_trip.written_form_is_one.Goals as goal

pub returns : goal.returns
returns c = record { one_form = one_text }
