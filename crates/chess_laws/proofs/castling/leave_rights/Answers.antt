-- A move that touches no home square leaves all rights.
use Rattle.chess_laws.proofs.Words.{sym, ◌∙◌}
use Rattle.chess_laws.proofs.Untouched.{rights-untouched}
use Rattle.chess_laws.proofs.castling.leave_rights.Goals as goal

pub returns-else-touches_home : goal.returns-else-touches_home
returns-else-touches_home c =
    rights-untouched c.args.rights.now c.args.m.now (sym c.touches_home.ensures ∙ c.if-touches_home.false)
