use Rattle.std.proofs.Common.{sym, ◌∙◌}
use Rattle.filter_commands.proofs.FilterLaws.{keep_quiet}
use Rattle.filter_commands.proofs.filters.keep_filter.Goals as goal
use Rattle.shell_state.proofs.Quietly.{if_ok}
use Rattle.shell_state.specs.Work.{quiet}

pub returns : goal.returns
returns c = record {
  quiet = if_ok _ _ c.from_slice.result
      (λ line is. keep_quiet c.args.machine.now _ _ _ _ _ c.args.name.now line.items (sym c.machine.view_is) c.in_ok-keep.ensures.saved (sym c.in_ok-keep.ensures.kept ∙ c.if-not-branch.false)
      (is ∙ (c.as_slice.ensures.value ∙ c.name_line-line.ensures.line)) c.in_ok-keep.ensures.same_games c.requires.fits)
      c.from_slice.ensures.items;
}
