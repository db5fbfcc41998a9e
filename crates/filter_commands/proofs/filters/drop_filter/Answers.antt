use Rattle.std.proofs.Common.{sym}
use Rattle.filter_commands.proofs.FilterLaws.{drop_quiet}
use Rattle.filter_commands.proofs.filters.drop_filter.Goals as goal

pub returns : goal.returns
returns c = record {
  quiet = drop_quiet c.args.machine.now _ _ _ _ _ c.args.name.now c.forget_line.result.items (sym c.machine.view_is) c.forget_line.ensures.saved c.forget_line.ensures.line
      c.forget_line.ensures.same_games c.requires.fits;
}
