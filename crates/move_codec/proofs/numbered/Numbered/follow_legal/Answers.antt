use Rattle.move_codec.proofs.Words.{◌≡◌, ◌∙◌, ap, refl, sym, subst, Some, slice_get, other, man_at, Numbered, squares_of, capture_square, is_some}
use Rattle.move_codec.proofs.Boards.{number-is, numbering_of, without-unless}
use Rattle.move_codec.proofs.Steps.{AreNumbers-step}
use Rattle.move_codec.proofs.numbered.Numbered.follow_legal.Goals as goal

pub follow_by-requires-clause-number : goal.follow_by-requires-clause-number
follow_by-requires-clause-number c =
    let p = c.self.inside.position in
    let here : slice_get (squares_of p.side c.self.inside.numbers) c.args.number ≡ Some c.args.m.now.from =
    subst (λ (n : Numbered). slice_get (squares_of n.position.side n.numbers) c.args.number ≡ Some c.args.m.now.from)
    (sym c.self.view_is) c.requires.number in
    rw c.setup.ensures.setup
    (number-is p.board p.side (squares_of p.side c.self.inside.numbers) c.args.number c.args.m.now.from
    (numbering_of p.board c.self.inside.numbers c.self.invariant p.side).0 here)

pub follow_by-requires-clause-none : goal.follow_by-requires-clause-none
follow_by-requires-clause-none c =
    let p = c.self.inside.position in
    let s = capture_square c.args.m.now c.effect_as-effect.result in
    let taken : c.is_some-taken.result ≡ is_some (man_at p.board s) =
    c.is_some-taken.ensures ∙ ap is_some (c.at.ensures.man ∙ rw (c.board.ensures.board, c.capture_square.ensures) refl) in
    rw c.setup.ensures.setup
    (without-unless p.board (other p.side) (squares_of (other p.side) c.self.inside.numbers) s c.is_some-taken.result
    (numbering_of p.board c.self.inside.numbers c.self.invariant (other p.side)).0 taken)

pub invariant_of-self : goal.invariant_of-self
invariant_of-self c =
    rw (c.follow_by.ensures.after, c.effect_as-effect.ensures.effect, c.setup.ensures.setup)
    (AreNumbers-step c.self.inside.position c.args.m.now c.advance_as-legal.new.self c.self.inside.numbers c.setup.ensures.sound c.if-legal.ensures.step c.self.invariant)
