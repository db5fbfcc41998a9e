use Rattle.std.proofs.Common.{◌≡◌, subst, sym}
use Rattle.filter_seat.specs.Following.{told_by}
use Rattle.script_text.specs.Tasks.{Order}
use Rattle.desk_commands.proofs.moving.Before.moved_there.Goals as goal
use Rattle.desk_commands.specs.Desk.{moved_by}
use Rattle.desk_commands.specs.Doing.{IsNoted}

pub returns : goal.returns
returns c = record {
  moved = λ old games later before after noted was is.
      subst (λ (o : Order). told_by c.moved_with.result ≡ moved_by o before after) (sym c.in-Ok.is)
      (c.moved_with.ensures.moved old games later before after (subst (λ (o : Order). IsNoted old o c.args.self.now) c.in-Ok.is noted) was is);
}
