-- The setups and what is kept beside them are compared.
use Rattle.chess_laws.proofs.Words.{rules, ◌≡◌, Bool, true, false, ◌&&◌, refl}
use Rattle.chess_laws.proofs.position.PositionPartialEq.eq.Goals as goal

-- the tests in the order in which the code makes them
turn : (x s w b n : Bool) → ((((x && s) && w) && b) && n) ≡ (s && (w && (b && (x && n))))
turn true true true true n = refl
turn false true true true n = refl
turn x s w b n = refl

pub returns : goal.returns
returns c = search (rules, turn)
