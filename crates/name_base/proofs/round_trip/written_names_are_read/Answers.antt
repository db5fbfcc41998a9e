-- The law on lists.
use Rattle.name_base.proofs.AgainLemmas.{text_again}
use Rattle.name_base.proofs.round_trip.written_names_are_read.Goals as goal

pub returns : goal.returns
returns c = record { read_again = text_again }
