-- Such a man stands where a step leads.
use Rattle.chess_laws.proofs.Words.{Has}
use Rattle.chess_laws.proofs.Sets.{leapers}
use Rattle.chess_laws.proofs.attack.leaps.Goals as goal

pub returns : goal.returns
returns c = λ new colour kind s steps is less each.
    leapers new colour kind c.args.men s steps (Has c.args.squares) c.meets.result is less c.meets.ensures.meets each
