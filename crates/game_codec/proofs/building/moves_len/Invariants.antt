use Rattle.std.proofs.Common.{◌-◌, length}
use Rattle.game_codec.proofs.building.moves_len.Given as goal

abbrev pub decreases-loop-at : goal.decreases-loop-at
decreases-loop-at l = length l.bytes - l.at
