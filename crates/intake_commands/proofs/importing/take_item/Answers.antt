use Rattle.std.proofs.Common.{◌∙◌}
use Rattle.base_files.specs.Told.{adds}
use Rattle.command_runs.proofs.Joining.{halted_none}
use Rattle.intake_commands.proofs.IntakeLaws.{item_counted, item_written}
use Rattle.intake_commands.proofs.importing.take_item.Goals as goal
use Rattle.intake_commands.specs.Importing.{item_text}
use Rattle.shell_state.proofs.Causing.{fault_of_device}

pub returns-in-Ok-clause-serves : goal.returns-in-Ok-clause-serves
returns-in-Ok-clause-serves g c = λ i st number.
    item_written c.put_item.result c.add_item.new.machine (g.F.Files.seen c.add_item.new.files) i c.args.item.now c.as_slice.result.now (adds (g.K.Sink.taken c.args.out.now) c.args.page.now.items) (adds (g.K.Sink.taken c.put_item.new.out) c.put_item.new.page.items)
    (c.in-Ok.ensures.stands i st) (c.as_slice.ensures.value ∙ c.in-Ok.ensures.line i st number) c.put_item.ensures.put c.put_item.ensures.halted c.put_item.ensures.output

pub returns-in-Ok-clause-counted : goal.returns-in-Ok-clause-counted
returns-in-Ok-clause-counted g c = λ i st. item_counted c.put_item.result c.in-Ok.taken.1 i c.args.item.now (c.in-Ok.ensures.counted i st) c.put_item.ensures.added

pub returns-in-Err-clause-serves : goal.returns-in-Err-clause-serves
returns-in-Err-clause-serves g c = λ i st number. record {
  wrote = halted_none (item_text i c.args.item.now) (adds (g.K.Sink.taken c.args.out.now) c.args.page.now.items);
  broken = fault_of_device c.in-Err.halt c.in-Err.ensures.devices;
}
