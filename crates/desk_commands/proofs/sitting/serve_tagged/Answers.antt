use Rattle.std.proofs.Common.{ℕ, List, rules}
use Rattle.script_text.specs.Tasks.{task}
use Rattle.shell_commands.specs.Tasks.{tasks}
use Rattle.desk_commands.proofs.ServeLaws.{ended_both, ended_broken, ended_causes, ended_done, ended_unsaid, serving_broken, serving_carries, serving_halted, serving_settled, serving_stands, serving_written, tagged_settled}
use Rattle.desk_commands.proofs.TagLaws.{tag_halted, tag_lost, tag_unsaid, tag_written}
use Rattle.desk_commands.proofs.sitting.serve_tagged.Goals as goal

pub returns : goal.returns
returns g c =
    let serves = c.serve_behind-way.ensures in
    let ends = c.ended.ensures.ended in
    let m = c.serve_behind-way.new.machine in
    let seen = g.F.Files.seen c.serve_behind-way.new.files in
    let first = g.K.Sink.taken c.args.out.now in
    let told = g.K.Sink.taken c.serve_behind-way.result.0.out.now in
    let told' = g.K.Sink.taken c.flush-flushed.new.out in
    let page = c.serve_behind-way.result.0.page.now in
    let w = c.args.window in
    let r = c.serve_behind-way.result.1 in
    let f = c.flush-flushed.result in
    let rendered = serves.rendered in
    let flushed = c.flush-flushed.ensures in
    let t = λ (text : List ℕ). task c.args.order.now text in
    record {
      stands = λ s text st said right. rw ends (ended_done r f _ (serving_stands r w m seen s (t text) _ _ (serves.serves s text st said right)));
      written = λ s text st said right.
          let served = serving_written r w m seen s (t text) _ _ (serves.serves s text st said right) in
          let whole = ended_both r f _ _ _ (tag_written _ told told' _ page ((tasks w).text s (t text)) rendered) served flushed.written in
          rw ends (search (rules, whole));
      halted = λ s text st said right.
          let served = serving_halted r w m seen s (t text) _ _ (serves.serves s text st said right) in
          let whole = tag_halted _ told told' _ page ((tasks w).text s (t text)) rendered served flushed.halted in
          search (rules, whole);
      broken = λ s text st said right.
          let served = serving_broken r w m seen s (t text) _ _ (serves.serves s text st said right) in
          let whole = ended_broken r f w s (t text) _ told told' _ _ _ page ((tasks w).text s (t text)) rendered flushed.halted served flushed.causes in
          rw ends (search (rules, whole));
      views = λ s text st said right. rw ends (ended_done r f _ (serves.views s text st said right));
      left = serves.left;
      number = serves.number;
      sound = rw ends (ended_done r f _ serves.sound);
      carries = λ s text st said right. serving_carries r w m seen s c.args.order.now text _ _ (serves.serves s text st said right) (serves.carries s st);
      settled = λ s text st said right.
          let served = serving_settled r w m seen s (t text) _ _ (serves.serves s text st said right) (serves.settled s text st said) in
          let whole = tagged_settled w seen s (t text) _ told told' _ page rendered flushed.halted served in
          search (rules, whole);
      unchanged = serves.unchanged;
      choices = serves.choices;
      asks = serves.asks;
      same = serves.same;
      unsaid = λ late.
          let same = tag_unsaid _ told told' _ page rendered in
          let whole = ended_unsaid r f _ _ _ _ first told' flushed.causes (λ none. same none flushed.halted) (serves.unsaid late) in
          rw ends (search (rules, whole));
      none_lost =
          let whole = tag_lost _ told told' _ page rendered flushed.halted in
          search (rules, whole);
      causes =
          let whole = ended_causes r f _ told _ _ page _ _ _ _ rendered serves.causes flushed.causes in
          rw ends (search (rules, whole));
    }
