use Rattle.std.proofs.Common.{subst, sym}
use Rattle.shell_state.specs.Stands.{Holding, Stands}
use Rattle.desk_commands.proofs.showing.show_to.Goals as goal

pub returns-in_err-show-clause-left : goal.returns-in_err-show-clause-left
returns-in_err-show-clause-left g c = λ seen s st.
    let here = subst (λ (h : Holding). Stands h seen s) (sym c.change_seats.ensures.machine) st in
    c.show.ensures.left seen s here

pub returns-clause-right : goal.returns-clause-right
returns-clause-right g c = λ seen earlier s st same right.
    let here = subst (λ (h : Holding). Stands h seen s) (sym c.change_seats.ensures.machine) st in
    c.in_ok-show.ensures.right seen earlier s here same right

pub returns-clause-told : goal.returns-clause-told
returns-clause-told g c = λ seen earlier s st same right.
    let here = subst (λ (h : Holding). Stands h seen s) (sym c.change_seats.ensures.machine) st in
    c.in_ok-show.ensures.told seen earlier s here same right

pub returns-clause-left : goal.returns-clause-left
returns-clause-left g c = λ seen s st.
    let here = subst (λ (h : Holding). Stands h seen s) (sym c.change_seats.ensures.machine) st in
    c.show.ensures.left seen s here
