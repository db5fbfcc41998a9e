use Rattle.std.proofs.Common.{ℕ, List, sym, ◌∙◌}
use Rattle.script_text.specs.Tasks.{task}
use Rattle.desk_commands.proofs.ServeLaws.{serving_broken, serving_carries, serving_halted, serving_settled, serving_stands, serving_written}
use Rattle.desk_commands.proofs.sitting.serve_client.Goals as goal

pub returns-then-is_tagged : goal.returns-then-is_tagged
returns-then-is_tagged g c =
    let serves = c.serve_tagged.ensures in
    let window = sym c.window_of-window.ensures.window in
    let tags = sym c.is_tagged.ensures.tagged ∙ c.if-is_tagged.true in
    let tag = sym c.client_tag-tag.ensures.tag in
    record {
      stands = rw window serves.stands;
      written = rw (window, tags, tag) serves.written;
      halted = rw (window, tags, tag) serves.halted;
      broken = rw (window, tags, tag) serves.broken;
      views = rw window serves.views;
      left = rw window serves.left;
      number = serves.number;
      sound = serves.sound;
      carries = rw window serves.carries;
      settled = rw window serves.settled;
      unchanged = serves.unchanged;
      choices = serves.choices;
      asks = serves.asks;
      same = serves.same;
      unsaid = serves.unsaid;
      none_lost = serves.none_lost;
      causes = serves.causes;
    }

pub returns-else-is_tagged : goal.returns-else-is_tagged
returns-else-is_tagged g c =
    let serves = c.serve.ensures in
    let window = sym c.window_of-window.ensures.window in
    let tags = sym c.is_tagged.ensures.tagged ∙ c.if-is_tagged.false in
    let machine = c.serve.new.machine in
    let before = g.K.Sink.taken c.args.out.now in
    let after = g.K.Sink.taken c.serve.new.out in
    let t = λ (text : List ℕ). task c.args.order.now text in
    record {
      stands = rw window (λ s text st told right. serving_stands _ _ machine _ s (t text) before after (serves.serves s text st told right));
      written = rw (window, tags) (λ s text st told right. serving_written _ _ machine _ s (t text) before after (serves.serves s text st told right));
      halted = rw (window, tags) (λ s text st told right. serving_halted _ _ machine _ s (t text) before after (serves.serves s text st told right));
      broken = rw (window, tags) (λ s text st told right. serving_broken _ _ machine _ s (t text) before after (serves.serves s text st told right));
      views = rw window serves.views;
      left = rw window serves.left;
      number = serves.number;
      sound = serves.sound;
      carries = rw window
          (λ s text st told right. serving_carries _ _ machine _ s c.args.order.now text before after (serves.serves s text st told right) (serves.carries s st));
      settled = rw window (λ s text st told right. serving_settled _ _ machine _ s (t text) before after (serves.serves s text st told right) (serves.settled s text st told));
      unchanged = serves.unchanged;
      choices = serves.choices;
      asks = serves.asks_told;
      same = serves.same;
      unsaid = serves.unsaid;
      none_lost = serves.none_lost;
      causes = serves.causes;
    }
