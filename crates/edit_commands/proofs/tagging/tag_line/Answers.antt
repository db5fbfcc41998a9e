use Rattle.std.proofs.Common.{◌≡◌, ℕ, None, IfOk, subst}
use Rattle.std.specs.Prelude.{OnOk}
use Rattle.edit_commands.specs.Editing.{tag_after, tag_text}
use Rattle.edit_commands.proofs.TagLaws.{no_game_says, no_game_stands, untagged}
use Rattle.edit_commands.proofs.tagging.tag_line.Goals as goal
use Rattle.shell_state.proofs.CarryLaws.{carry_of}
use Rattle.shell_state.specs.Stands.{Stands}

pub returns-in_ok-no_game_line-in-None-clause-line : goal.returns-in_ok-no_game_line-in-None-clause-line
returns-in_ok-no_game_line-in-None-clause-line g c = λ s st.
    no_game_says c.args.machine.now (g.F.Files.seen c.args.files.now) s c.args.number c.args.edit.now _ st c.in-None.ensures.at c.in_ok-no_game_line-in-None.ensures

pub returns-in_ok-no_game_line-in-None-clause-stands : goal.returns-in_ok-no_game_line-in-None-clause-stands
returns-in_ok-no_game_line-in-None-clause-stands g c = λ s st.
    no_game_stands c.args.machine.now (g.F.Files.seen c.args.files.now) s c.args.number c.args.edit.now st c.in-None.ensures.at

pub returns-in_ok-no_game_line-in-None-clause-carries : goal.returns-in_ok-no_game_line-in-None-clause-carries
returns-in_ok-no_game_line-in-None-clause-carries g c = λ s st. carry_of c.args.machine.now (g.F.Files.seen c.args.files.now) s None st

pub returns-in_err-no_game_line-in-None-clause-carries : goal.returns-in_err-no_game_line-in-None-clause-carries
returns-in_err-no_game_line-in-None-clause-carries g c = λ s st. carry_of c.args.machine.now (g.F.Files.seen c.args.files.now) s None st

pub returns-in_ok-no_game_line-in-None-clause-tagged : goal.returns-in_ok-no_game_line-in-None-clause-tagged
returns-in_ok-no_game_line-in-None-clause-tagged g c =
    untagged c.args.number c.args.edit.now c.args.machine.now.kept (g.F.Files.seen c.args.files.now) (g.F.Files.seen c.args.files.now) _ c.in_ok-no_game_line-in-None.ensures

pub returns-in-Some-clause-line : goal.returns-in-Some-clause-line
returns-in-Some-clause-line g c = λ s st.
    let L : ℕ → Type 0 = λ n. IfOk c.set_tag.result (λ line. line.items ≡ tag_text s n c.args.edit.now) in
    subst L c.in-Some.ensures.at.0 (c.set_tag.ensures.line s st)

pub returns-in-Some-clause-stands : goal.returns-in-Some-clause-stands
returns-in-Some-clause-stands g c = λ s st.
    let S : ℕ → Type 0 = λ n. OnOk c.set_tag.result (Stands c.set_tag.new.machine (g.F.Files.seen c.set_tag.new.files) (tag_after s n c.args.edit.now)) in
    subst S c.in-Some.ensures.at.0 (c.set_tag.ensures.stands s st)
