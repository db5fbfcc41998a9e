-- The set of the mover's men has no other square.
use Rattle.chess_laws.proofs.Sets.{no_own}
use Rattle.chess_laws.proofs.targets.not_own.Goals as goal

pub returns : goal.returns
returns c = λ b.
    let left = c.without.ensures.left b in
    let own = no_own c.args.p.now.board c.args.p.now.side c.of_colour.result b c.of_colour.ensures.squares in (
      λ h. let both = left.0 h in (both.0, own.0 both.1),
      λ h. left.1 (h.0, own.1 h.1),
    )
