use Rattle.shell_commands.proofs.serving.serve.Goals as goal
use Rattle.shell_state.proofs.CarryLaws.{if_err}

pub returns : goal.returns
returns g c =
    let turn = c.hand_on.ensures.turn in
    let kept = c.hand_on.ensures.kept in
    record {
      serves = λ s text st told right. (turn s text st told right).serves;
      views = λ s text st told right. (turn s text st told right).views;
      left = λ s text st told right. (turn s text st told right).left;
      others = kept.others;
      number = kept.number;
      sound = kept.sound;
      whole = kept.whole;
      carries = λ s st. if_err c.hand_on.result _ (kept.carries s st);
      unsaid = kept.unsaid;
      settled = λ s text st told. kept.settled s text st;
      unchanged = kept.unchanged;
      choices = kept.choices;
      asks = kept.asks;
      asks_told = kept.asks_told;
      same = c.hand_on.ensures.same;
      none_lost = kept.none_lost;
      causes = kept.causes;
    }
