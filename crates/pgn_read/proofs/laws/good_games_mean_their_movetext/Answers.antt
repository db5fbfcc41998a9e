use Rattle.pgn_read.proofs.MeantLaws.{game_meant}
use Rattle.pgn_read.proofs.laws.good_games_mean_their_movetext.Goals as goal

pub returns : goal.returns
returns c = record { meant = game_meant }
