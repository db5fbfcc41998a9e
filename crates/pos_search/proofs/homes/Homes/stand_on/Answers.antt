use Rattle.std.proofs.Common.{◌≡◌, ◌&&◌, eqb, ne_eqb, Bool, ap, sym, ◌∙◌}
use Rattle.std.specs.Int.RustNames.{bit_and}
use Rattle.std.proofs.lemmas.Bool.{eq-eqb}
use Rattle.pos_search.proofs.HomeSets.{homes_stand}
use Rattle.pos_search.proofs.homes.Homes.stand_on.Goals as goal

pub returns-then-white-self : goal.returns-then-white-self
returns-then-white-self c = λ sought are.
    let black = c.args.self.now.black in
    ap (λ (t : Bool). t && eqb (bit_and c.of_man-black.result black) black) (sym (eq-eqb _ _ c.if-white-self.true))
    ∙ homes_stand sought c.args.board.now c.args.self.now c.of_man-white.result c.of_man-black.result are c.of_man-white.ensures.squares c.of_man-black.ensures.squares

-- The other side is not looked at.
pub returns-else-white-self : goal.returns-else-white-self
returns-else-white-self c = λ sought are.
    let black = c.args.self.now.black in
    let not = ne_eqb _ _ c.if-white-self.false in
    not ∙ ap (λ (t : Bool). t && eqb (bit_and c.of_man-black.result black) black) (sym not)
    ∙ homes_stand sought c.args.board.now c.args.self.now c.of_man-white.result c.of_man-black.result are c.of_man-white.ensures.squares c.of_man-black.ensures.squares
