use Rattle.game_codec.proofs.VisitLaws.{main_of}
use Rattle.game_codec.proofs.visits.all_moves_have_the_main_line.Goals as goal

pub returns : goal.returns
returns c = record { main = main_of }
