use Rattle.std.proofs.Common.{List, get_or, ap, ◌∙◌}
use Rattle.sig_index.specs.MemGames.{Kept}
use Rattle.sig_index.proofs.ReadLemmas.{kept_plies}
use Rattle.sig_index.proofs.mem_games.MemGames.at.Goals as goal

pub returns-clause-plies : goal.returns-clause-plies
returns-clause-plies c =
    kept_plies c.args.self.now c.args.i c.index.result.now c.requires.game
    (c.index.ensures ∙ ap (λ (games : List Kept). get_or games c.args.i c.index.result.now) c.self.view_is)
