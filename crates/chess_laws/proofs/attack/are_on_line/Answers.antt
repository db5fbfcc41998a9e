use Rattle.chess_laws.proofs.Words.{false≢true, sym, ◌∙◌}
use Rattle.chess_laws.proofs.attack.are_on_line.Goals as goal

pub returns-else-is_seen-clause-rooks : goal.returns-else-is_seen-clause-rooks
returns-else-is_seen-clause-rooks c = λ men any. absurd (false≢true (sym c.if-is_seen.false ∙ c.is_seen.ensures men any))
