use Rattle.std.proofs.Common.{◌≤◌, ◌<◌, ℕ, ◌+◌, ◌++◌, [], ◌∷◌, List, Option, length, map, ap, ◌∙◌, arith}
use Rattle.std.proofs.lemmas.List.{length-append, take_all}
use Rattle.std.proofs.lemmas.List.Elements.{All-push, All-same}
use Rattle.std.proofs.lemmas.List.Sums.{sum_by-take-le}
use Rattle.base_files.specs.Seen.{Seen}
use Rattle.base_files.specs.declared.extent.Extent.{Extent}
use Rattle.eco_class.specs.Table.{eco_of}
use Rattle.game_tree.specs.Game.{GameTree}
use Rattle.sig_index.proofs.ReadLemmas.{some_at}
use Rattle.report_commands.proofs.EcoLaws.{asked_more, asked_within, code_more}
use Rattle.report_commands.proofs.classifying.find_codes.Goals as goal
use Rattle.report_commands.specs.Ends.{IsCode}

pub loop-i-preserved : goal.loop-i-preserved
loop-i-preserved g c =
    let extents = g.G.Games.extents c.args.games.now in
    let i = c.loop-i.i in
    let codes = c.loop-i.codes.items in
    let code = c.in-Ok.code in
    let more = c.in_ok-push.ensures.items in
    let below : i < length extents = omega (arith, c.len-i-end.ensures.one_extent_each, c.loop-i-test.true) in
    record {
      found = λ told list same holds.
          let game = some_at list i (omega (arith, holds.count, c.len-i-end.ensures.one_sig_each, c.loop-i-test.true)) in
          let told_now = ap (λ (s : Seen). s.games) c.loop-i.invariant.unchanged ∙ same in
          code_more (eco_of c.args.table.now) list i codes c.push.new.self.items code game.0 game.1 (c.loop-i.invariant.found told list same holds)
          (c.in-Ok.ensures.code told list game.0 told_now holds game.1) more;
      count = ap (λ (xs : List (Option ℕ)). length xs) more ∙ (length-append codes (code ∷ []) ∙ ap (λ (n : ℕ). n + 1) c.loop-i.invariant.count);
      small = All-same IsCode c.push.new.self.items (codes ++ code ∷ []) more (All-push IsCode codes code c.loop-i.invariant.small c.in-Ok.ensures.small);
      room = c.find_code.ensures.room;
      unchanged = c.find_code.ensures.unchanged ∙ c.loop-i.invariant.unchanged;
      asks = omega (arith, c.find_code.ensures.asks, c.loop-i.invariant.asks, asked_more extents i below);
      counts = omega (arith, c.loop-i.invariant.counts, c.find_code.ensures.causes.none_fell.files);
    }

pub returns-in-Err-clause-asks : goal.returns-in-Err-clause-asks
returns-in-Err-clause-asks g c =
    let extents = g.G.Games.extents c.args.games.now in
    let below : c.loop-i.i < length extents = omega (arith, c.len-i-end.ensures.one_extent_each, c.loop-i-test.true) in
    omega (arith, c.find_code.ensures.asks, c.loop-i.invariant.asks, asked_within extents c.loop-i.i below)

pub returns-in_err-push-clause-asks : goal.returns-in_err-push-clause-asks
returns-in_err-push-clause-asks g c =
    let extents = g.G.Games.extents c.args.games.now in
    let below : c.loop-i.i < length extents = omega (arith, c.len-i-end.ensures.one_extent_each, c.loop-i-test.true) in
    omega (arith, c.find_code.ensures.asks, c.loop-i.invariant.asks, asked_within extents c.loop-i.i below)

pub returns-in-Err-clause-devices : goal.returns-in-Err-clause-devices
returns-in-Err-clause-devices g c = λ told list same holds.
    c.in-Err.ensures.devices told list (ap (λ (s : Seen). s.games) c.loop-i.invariant.unchanged ∙ same) holds

pub returns-clause-found : goal.returns-clause-found
returns-clause-found g c = λ told list same holds.
    let all : length list ≤ c.loop-i.i = omega (arith, holds.count, c.len-i-end.ensures.one_sig_each, c.loop-i-test.false) in
    c.loop-i.invariant.found told list same holds ∙ ap (λ (games : List GameTree). map (eco_of c.args.table.now) games) (take_all c.loop-i.i list all)

pub returns-clause-asks : goal.returns-clause-asks
returns-clause-asks g c =
    omega (arith, c.loop-i.invariant.asks, sum_by-take-le (λ (x : Extent). x.len) (g.G.Games.extents c.args.games.now) c.loop-i.i)
