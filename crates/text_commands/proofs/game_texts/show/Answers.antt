use Rattle.std.proofs.Common.{◌≤◌, ℕ, ◌∙◌, arith, subst, sym}
use Rattle.std.proofs.lemmas.Option.{slice_get_within}
use Rattle.base_files.proofs.Rising.{raised-none}
use Rattle.base_files.specs.Counters.{raised}
use Rattle.shell_state.proofs.Served.{on_ok}
use Rattle.text_commands.proofs.GameTextLaws.{no_game_serves, none_there}
use Rattle.text_commands.proofs.game_texts.show.Goals as goal

pub returns-in_ok-line-in-None-clause-serves : goal.returns-in_ok-line-in-None-clause-serves
returns-in_ok-line-in-None-clause-serves g c = λ s st.
    no_game_serves c.write_line.result c.args.machine.now (g.F.Files.seen c.args.files.now) s c.args.number c.as_slice.result.now (g.K.Sink.taken c.args.out.now) (g.K.Sink.taken c.write_line.new.out) st c.in-None.ensures.at
    (c.as_slice.ensures.value ∙ c.in_ok-line-in-None.ensures) c.write_line.ensures.written c.write_line.ensures.halted c.write_line.ensures.output

pub returns-in_ok-line-in-None-clause-asked : goal.returns-in_ok-line-in-None-clause-asked
returns-in_ok-line-in-None-clause-asked g c =
    let first = g.F.Files.asked c.args.files.now in
    on_ok _ c.write_line.result
    (subst (λ (n : ℕ). raised first n ≤ first) (sym (none_there c.args.machine.now c.args.number c.in-None.ensures.at)) (raised-none first))

pub returns-in_ok-line-in-None-clause-shown : goal.returns-in_ok-line-in-None-clause-shown
returns-in_ok-line-in-None-clause-shown g c =
    on_ok _ c.write_line.result (λ e at. absurd (omega (arith, c.in-None.ensures.at, slice_get_within c.args.machine.now.kept.entries c.args.number e at)))
