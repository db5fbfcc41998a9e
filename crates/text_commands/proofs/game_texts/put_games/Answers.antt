use Rattle.std.proofs.Common.{◌<◌, ◌≤◌, length, arith, ap, ◌∙◌}
use Rattle.base_core.proofs.Lists.{get_some}
use Rattle.base_files.specs.Seen.{Seen}
use Rattle.base_files.specs.Told.{adds}
use Rattle.text_commands.proofs.GameTextLaws.{export_all, export_cut, export_more, filtered-more, none_left, rest_more}
use Rattle.text_commands.proofs.ShownLaws.{puts_all, puts_more}
use Rattle.text_commands.proofs.game_texts.put_games.Goals as goal
use Rattle.text_commands.specs.GameTexts.{exported_len}

pub returns-in-Err-clause-put : goal.returns-in-Err-clause-put
returns-in-Err-clause-put g c = λ told all same is.
    let held = get_some all.games c.loop-i.i (omega (arith, c.loop-i-test.true, c.len-i-end.ensures.len, c.requires.games, is.count)) in
    export_cut c.in-Err.halt c.loop-i.i c.args.filter.now all.games c.get.result held.0 (adds (g.K.Sink.taken c.args.out.now) c.args.page.now.items) (adds (g.K.Sink.taken c.loop-i.out) c.loop-i.page.items) (adds (g.K.Sink.taken c.put_if_in.new.out) c.put_if_in.new.page.items)
    c.get.ensures.entry held.1 (c.loop-i.invariant.put told all same is)
    (c.in-Err.ensures.put told all held.0 (ap (λ (s : Seen). s.games) c.loop-i.invariant.seen ∙ same) is held.1) c.in-Err.ensures.some

pub returns-in-Err-clause-asks : goal.returns-in-Err-clause-asks
returns-in-Err-clause-asks g c =
    let here : c.loop-i.i < length c.args.base.now.entries = omega (arith, c.loop-i-test.true, c.len-i-end.ensures.len, c.requires.games) in
    omega (arith, c.put_if_in.ensures.asks, c.loop-i.invariant.asks, filtered-more c.loop-i.i c.args.filter.now c.args.base.now.entries c.get.result here c.get.ensures.entry)

pub loop-i-preserved : goal.loop-i-preserved
loop-i-preserved g c =
    let here : c.loop-i.i < length c.args.base.now.entries = omega (arith, c.loop-i-test.true, c.len-i-end.ensures.len, c.requires.games) in
    record {
      put = λ told all same is.
          let held = get_some all.games c.loop-i.i (omega (arith, here, is.count)) in
          export_more c.loop-i.i c.args.filter.now all.games c.get.result held.0 (adds (g.K.Sink.taken c.args.out.now) c.args.page.now.items) (adds (g.K.Sink.taken c.loop-i.out) c.loop-i.page.items) (adds (g.K.Sink.taken c.put_if_in.new.out) c.put_if_in.new.page.items)
          c.get.ensures.entry held.1 (c.loop-i.invariant.put told all same is)
          (c.in-Ok.ensures.put told all held.0 (ap (λ (s : Seen). s.games) c.loop-i.invariant.seen ∙ same) is held.1);
      shown = puts_more c.args.base.now c.args.filter.now c.loop-i.i c.get.result (adds (g.K.Sink.taken c.args.out.now) c.args.page.now.items) (adds (g.K.Sink.taken c.loop-i.out) c.loop-i.page.items)
          (adds (g.K.Sink.taken c.put_if_in.new.out) c.put_if_in.new.page.items) here c.get.ensures.entry c.loop-i.invariant.shown c.in-Ok.ensures.shown;
      none_lost = λ front before. c.put_if_in.ensures.none_lost front (c.loop-i.invariant.none_lost front before);
      room = c.put_if_in.ensures.room;
      seen = c.put_if_in.ensures.unchanged ∙ c.loop-i.invariant.seen;
      asks = omega (arith, c.put_if_in.ensures.asks, c.loop-i.invariant.asks, filtered-more c.loop-i.i c.args.filter.now c.args.base.now.entries c.get.result here c.get.ensures.entry);
      asked = rest_more (g.F.Files.asked c.args.files.now) (g.F.Files.asked c.loop-i.files) (g.F.Files.asked c.put_if_in.new.files) (exported_len c.args.filter.now c.args.base.now.entries) _ _ _
          c.loop-i.invariant.asked c.in-Ok.ensures.asked (filtered-more c.loop-i.i c.args.filter.now c.args.base.now.entries c.get.result here c.get.ensures.entry);
      files = omega (arith, c.put_if_in.ensures.causes.none_fell.files, c.loop-i.invariant.files);
      output = omega (arith, c.put_if_in.ensures.causes.none_fell.output, c.loop-i.invariant.output);
    }

pub returns-clause-put : goal.returns-clause-put
returns-clause-put g c = λ told all same is.
    let done : length c.args.filter.now ≤ c.loop-i.i = omega (arith, c.loop-i-test.false, c.len-i-end.ensures.len) in
    export_all c.loop-i.i c.args.filter.now all.games (adds (g.K.Sink.taken c.args.out.now) c.args.page.now.items) (adds (g.K.Sink.taken c.loop-i.out) c.loop-i.page.items) done (omega (arith, done, c.requires.games, is.count))
    (c.loop-i.invariant.put told all same is)

pub returns-clause-asked : goal.returns-clause-asked
returns-clause-asked g c =
    let done : length c.args.filter.now ≤ c.loop-i.i = omega (arith, c.loop-i-test.false, c.len-i-end.ensures.len) in
    none_left (g.F.Files.asked c.args.files.now) (g.F.Files.asked c.loop-i.files) c.loop-i.i c.args.filter.now c.args.base.now.entries done c.loop-i.invariant.asked

pub returns-clause-shown : goal.returns-clause-shown
returns-clause-shown g c =
    let done : length c.args.filter.now ≤ c.loop-i.i = omega (arith, c.loop-i-test.false, c.len-i-end.ensures.len) in
    puts_all c.args.base.now c.args.filter.now c.loop-i.i (adds (g.K.Sink.taken c.args.out.now) c.args.page.now.items) (adds (g.K.Sink.taken c.loop-i.out) c.loop-i.page.items) done
    (omega (arith, done, c.requires.games)) c.loop-i.invariant.shown
