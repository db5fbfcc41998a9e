use Rattle.std.proofs.Common.{sym, subst, arith}
use Rattle.command_runs.specs.Counts.{counts}
use Rattle.index_commands.proofs.BuildLaws.{build_device, build_why}
use Rattle.index_commands.proofs.indexing.read_index.Goals as goal
use Rattle.shell_state.specs.Ends.{IsDevice}
use Rattle.shell_state.specs.Stands.{WhyHalt}
use Rattle.shell_state.specs.declared.halt.Halt.{Halt}

pub returns-in-Err-clause-devices : goal.returns-in-Err-clause-devices
returns-in-Err-clause-devices g c = λ told list same holds.
    let D : Halt → Type 0 = λ e. IsDevice e in
    subst D (sym c.halt_of.ensures)
    (build_device c.in-Err.error (g.F.Files.seen c.args.files.now).games told (g.G.Games.extents c.args.games.now) (g.G.Games.sigs c.args.games.now) list c.build.new.buf _ _
    same holds c.in-Err.ensures.cause)

pub returns-in-Err-clause-causes : goal.returns-in-Err-clause-causes
returns-in-Err-clause-causes g c =
    let f = g.F.Files.faults c.args.files.now in
    let f' = g.F.Files.faults c.build.new.files in
    let W : Halt → Type 0 = λ e. WhyHalt e (counts f 0 0) (counts f' 0 0) in
    record {
      none_fell = record { files = c.build.ensures.counts; input = omega arith; output = omega arith };
      why = subst W (sym c.halt_of.ensures)
          (build_why c.in-Err.error (g.F.Files.seen c.args.files.now).games (g.G.Games.extents c.args.games.now) (g.G.Games.sigs c.args.games.now) c.build.new.buf f f' c.in-Err.ensures.cause);
    }
