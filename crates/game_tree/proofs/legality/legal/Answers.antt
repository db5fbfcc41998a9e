use Rattle.std.proofs.Common.{refl, arith}
use Rattle.std.proofs.lemmas.Option.{slice_get_past}
use Rattle.game_tree.specs.Replay.{main_moves, plies_of}
use Rattle.game_tree.proofs.LegalLemmas.{IsLegalGame-next}
use Rattle.game_tree.proofs.legality.legal.Goals as goal

pub returns-clause-replay : goal.returns-clause-replay
returns-clause-replay c = λ yes k under. IsLegalGame-next c.args.g.now (c.is_legal_game.ensures.0 yes) k under

pub returns-clause-ends : goal.returns-clause-ends
returns-clause-ends c = (refl, slice_get_past (main_moves c.args.g.now) (plies_of c.args.g.now) (omega arith))
