use Rattle.chess_laws.proofs.Words.{◌≡◌, ◌∙◌, Decides, same_from_decides, start_setup, is_start}
use Rattle.chess_laws.proofs.Initial.{is_start-Decides}
use Rattle.chess_laws.proofs.position.Position.is_start.Goals as goal

pub returns-clause-decided : goal.returns-clause-decided
returns-clause-decided c =
    let decides : Decides c.is_same.result (c.args.self.now ≡ start_setup) =
    rw (c.setup.ensures.setup, c.setup-2.ensures.setup ∙ c.start.ensures.start) at c.is_same.ensures.same in
    same_from_decides c.is_same.result (is_start c.args.self.now) decides (is_start-Decides c.args.self.now)
