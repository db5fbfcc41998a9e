use Rattle.std.proofs.Common.{ap, ◌∙◌}
use Rattle.std.specs.Prelude.{codes}
use Rattle.intake_commands.proofs.AddLaws.{add_counts, add_says, add_stands, refused_item_counts, refused_item_says, refused_item_stands}
use Rattle.intake_commands.proofs.importing.add_game.Goals as goal
use Rattle.shell_state.specs.Lines.{game_line}

pub returns-in_ok-game_line-in-Ok-Ok-clause-line : goal.returns-in_ok-game_line-in-Ok-Ok-clause-line
returns-in_ok-game_line-in-Ok-Ok-clause-line g c = λ i st num.
    let is = rw c.in-Ok-Ok.field-0-is at (c.in-Ok-Ok.ensures.adds i.state st) in
    add_says c.add.new.self (g.F.Files.seen c.add.new.files) i c.args.head.now c.args.game.now c.in-Ok-Ok.i _ is (c.in_ok-game_line-in-Ok-Ok.ensures ∙ ap (game_line (codes "added ")) c.from.ensures)

pub returns-in_ok-game_line-in-Ok-Ok-clause-stands : goal.returns-in_ok-game_line-in-Ok-Ok-clause-stands
returns-in_ok-game_line-in-Ok-Ok-clause-stands g c = λ i st.
    let is = rw c.in-Ok-Ok.field-0-is at (c.in-Ok-Ok.ensures.adds i.state st) in
    add_stands c.add.new.self (g.F.Files.seen c.add.new.files) i c.args.head.now c.args.game.now c.in-Ok-Ok.i is

pub returns-in_ok-game_line-in-Ok-Ok-clause-counted : goal.returns-in_ok-game_line-in-Ok-Ok-clause-counted
returns-in_ok-game_line-in-Ok-Ok-clause-counted g c = λ i st.
    let is = rw c.in-Ok-Ok.field-0-is at (c.in-Ok-Ok.ensures.adds i.state st) in
    add_counts c.add.new.self (g.F.Files.seen c.add.new.files) i c.args.head.now c.args.game.now c.in-Ok-Ok.i is

pub returns-in_ok-not_added_line-in-Ok-Err-clause-line : goal.returns-in_ok-not_added_line-in-Ok-Err-clause-line
returns-in_ok-not_added_line-in-Ok-Err-clause-line g c = λ i st num.
    let is = rw c.in-Ok-Err.field-0-is at (c.in-Ok-Err.ensures.adds i.state st) in
    refused_item_says c.add.new.self (g.F.Files.seen c.add.new.files) i c.args.head.now c.args.game.now c.in-Ok-Err.why c.args.number _ is c.in_ok-not_added_line-in-Ok-Err.ensures.line num

pub returns-in_ok-not_added_line-in-Ok-Err-clause-stands : goal.returns-in_ok-not_added_line-in-Ok-Err-clause-stands
returns-in_ok-not_added_line-in-Ok-Err-clause-stands g c = λ i st.
    let is = rw c.in-Ok-Err.field-0-is at (c.in-Ok-Err.ensures.adds i.state st) in
    refused_item_stands c.add.new.self (g.F.Files.seen c.add.new.files) i c.args.head.now c.args.game.now c.in-Ok-Err.why is

pub returns-in_ok-not_added_line-in-Ok-Err-clause-counted : goal.returns-in_ok-not_added_line-in-Ok-Err-clause-counted
returns-in_ok-not_added_line-in-Ok-Err-clause-counted g c = λ i st.
    let is = rw c.in-Ok-Err.field-0-is at (c.in-Ok-Err.ensures.adds i.state st) in
    refused_item_counts c.add.new.self (g.F.Files.seen c.add.new.files) i c.args.head.now c.args.game.now c.in-Ok-Err.why is
