use Rattle.std.proofs.Common.{None, false, sym, subst}
use Rattle.std.specs.Prelude.{◌≡◌, IfOk, OnOk}
use Rattle.pgn_read.specs.declared.item.Item.{Item}
use Rattle.intake_commands.proofs.IntakeLaws.{refused_counts}
use Rattle.intake_commands.proofs.importing.add_item.Goals as goal
use Rattle.intake_commands.specs.Importing.{item_after, item_text}
use Rattle.intake_commands.specs.Intakes.{Counted}
use Rattle.shell_state.proofs.CarryLaws.{carry_of}
use Rattle.shell_state.specs.Stands.{Stands}

pub returns-in-Good-clause-line : goal.returns-in-Good-clause-line
returns-in-Good-clause-line g c = λ i st number.
    let P : Item → Type 0 = λ x. IfOk c.add_game.result (λ given. given.0.items ≡ item_text i x) in
    subst P (sym c.in-Good.is) (c.add_game.ensures.line i st number)

pub returns-in-Good-clause-stands : goal.returns-in-Good-clause-stands
returns-in-Good-clause-stands g c = λ i st.
    let P : Item → Type 0 = λ x. OnOk c.add_game.result (Stands c.add_game.new.machine (g.F.Files.seen c.add_game.new.files) (item_after i x).state) in
    subst P (sym c.in-Good.is) (c.add_game.ensures.stands i st)

pub returns-in-Good-clause-counted : goal.returns-in-Good-clause-counted
returns-in-Good-clause-counted g c = λ i st.
    let P : Item → Type 0 = λ x. IfOk c.add_game.result (λ given. Counted given.1 i (item_after i x)) in
    subst P (sym c.in-Good.is) (c.add_game.ensures.counted i st)

pub returns-in_err-line-in-Bad-clause-carries : goal.returns-in_err-line-in-Bad-clause-carries
returns-in_err-line-in-Bad-clause-carries g c = λ s st. carry_of c.args.machine.now (g.F.Files.seen c.args.files.now) s None st

pub returns-in_ok-line-in-Bad-clause-counted : goal.returns-in_ok-line-in-Bad-clause-counted
returns-in_ok-line-in-Bad-clause-counted g c = λ i st.
    let P : Item → Type 0 = λ x. Counted false i (item_after i x) in
    subst P (sym c.in-Bad.is) (refused_counts i)

pub returns-in_ok-line-in-Bad-clause-carries : goal.returns-in_ok-line-in-Bad-clause-carries
returns-in_ok-line-in-Bad-clause-carries g c = λ s st. carry_of c.args.machine.now (g.F.Files.seen c.args.files.now) s None st
