use Rattle.shell_commands.proofs.WindowLaws.{any_body, any_early, any_files, any_left, any_price, any_writes}
use Rattle.shell_commands.proofs.laws.lines_of_any_user.Goals as goal

pub returns : goal.returns
returns c = record { files = any_files; writes = any_writes; body = any_body; early = any_early; left = any_left; price = any_price }
